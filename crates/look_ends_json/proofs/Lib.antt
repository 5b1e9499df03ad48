mod CallFloats
mod EndFloats
mod Lines
