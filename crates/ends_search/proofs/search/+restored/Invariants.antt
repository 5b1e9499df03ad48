use Rattle.ends_search.proofs.search.+restored.Given as goal

abbrev pub decreases-restored : goal.decreases-restored
decreases-restored g l = l.place
