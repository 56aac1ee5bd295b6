use Rattle.std.proofs.Common.{◌≡◌, length, map}
use Rattle.std.specs.List.{list_any}
use Rattle.std.specs.Str.{bytes_eq}
use Rattle.shed_cli.proofs.words.is_keyword.Given as goal

abbrev pub invariant-loop-words : goal.invariant-loop-words
invariant-loop-words l = list_any (λ k. bytes_eq k l.word) (map (λ k. k.now) l.words) ≡ list_any (λ k. bytes_eq k l.word) (map (λ k. k.now) l.initial.words)

abbrev pub decreases-loop-words : goal.decreases-loop-words
decreases-loop-words l = length l.words
