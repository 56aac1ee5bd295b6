mod TargetLemmas
