mod FaultLemmas
mod Parts
