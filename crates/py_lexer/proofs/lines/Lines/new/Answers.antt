use Rattle.std.proofs.Common.{ap, ◌∙◌, List, [], ◌∷◌, map, reverse}
use Rattle.py_tokens.specs.Lines.{Widths, no_width, lines_of, bracketed}
use Rattle.py_tokens.specs.Tokens.{preceded, merged_outcome}
use Rattle.py_lexer.specs.PlainTokens.{plain_place, plain_tokens}
use Rattle.py_lexer.specs.Ahead.{Blanks, lines_from}
use Rattle.py_lexer.specs.Wanted.{plain_widths, pending_of, levels_of, followed, ahead}
use Rattle.py_lexer.proofs.LevelLemmas.{preceded-nil}
use Rattle.py_lexer.proofs.lines.Lines.new.Goals as goal

pub returns-clause-value : goal.returns-clause-value
unfolding ahead followed
returns-clause-value c texts end items =
    let out = c.new.result in
    let last = plain_place c.args.beginning in
    let go = λ (levels : List Widths). lines_from (Blanks no_width) levels last (lines_of end (bracketed [] items)) in
    ap (λ pending. merged_outcome (preceded (plain_tokens texts out.tokens.items) (lines_from (Blanks no_width) (levels_of out) last (lines_of end (bracketed (pending_of pending) items))))) c.new-2.ensures.items
    ∙ ap (λ ts. merged_outcome (preceded (plain_tokens texts ts) (go (levels_of out)))) c.new.ensures.tokens
    ∙ ap merged_outcome (preceded-nil (go (levels_of out)))
    ∙ ap (λ w. merged_outcome (go (w ∷ map plain_widths (reverse out.outer.items)))) c.new.ensures.innermost
    ∙ ap (λ items. merged_outcome (go (no_width ∷ map plain_widths (reverse items)))) c.new.ensures.outer
