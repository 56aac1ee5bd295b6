use Rattle.std.proofs.Common.{arith, ◌≡◌, ◌-◌, [], ◌∷◌, ap, sym, ◌∙◌, append-nil}
use Rattle.py_tokens.specs.Lexeme.{contents_of}
use Rattle.py_lexer.specs.Escapes.{plain_piece}
use Rattle.py_lexer.proofs.ContentsLemmas.{contents-more}
use Rattle.py_lexer.proofs.contents.contents_of.Goals as goal
use Rattle.py_lexer.proofs.contents.contents_of.Goals.{in-Stands+in_ok-push-in-Stands, in-Nothing}

pub loop-first-preserved : goal.loop-first-preserved
loop-first-preserved c =
    let part = c.next_part-part.result in
    let whole = contents_of c.args.raw 0 c.args.text.now in
    let x = contents_of c.args.raw c.loop-first.left c.loop-first.rest.now in
    let o = contents_of c.args.raw (part.length - 1) c.in-Some.after.now in
    let o' = contents_of c.args.raw c.saturating_sub-left.result c.in-Some.after.now in
    let e : c.saturating_sub-left.result ≡ part.length - 1 = omega arith in
    let same = ap (λ k. contents_of c.args.raw k c.in-Some.after.now) e in
    record {
      value = elim c.match-part.branch [
        | in-Stands+in_ok-push-in-Stands w ↦ contents-more c.loop-first.held c.match-part.held (w.in-Stands.code ∷ []) c.loop-first.n part.length (plain_piece part.piece) x o o' whole c.loop-first.invariant.value c.next_part-part.ensures (ap plain_piece w.in-Stands.is) (w.held-is ∙ w.in_ok-push-in-Stands.ensures.ok) same
        | in-Nothing w ↦ contents-more c.loop-first.held c.match-part.held [] c.loop-first.n part.length (plain_piece part.piece) x o o' whole c.loop-first.invariant.value c.next_part-part.ensures (ap plain_piece w.in-Nothing.is) (w.held-is ∙ sym (append-nil c.loop-first.held)) same
      ];
      within = omega (arith, c.in-Some.ensures.cases.1);
    }
