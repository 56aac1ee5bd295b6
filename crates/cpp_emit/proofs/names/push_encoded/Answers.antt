use Rattle.cpp_emit.proofs.NamesWritten.{characters_step, characters_end}
use Rattle.cpp_emit.proofs.names.push_encoded.Goals as goal

pub loop-c-preserved : goal.loop-c-preserved
loop-c-preserved c =
    characters_step c.loop-c.after c.in-Some.c c.loop-c.c-iterator.rest.now c.next.new.self.rest.now _ _ _ c.in-Some.ensures.steps.0 c.in_ok-push_escaped.ensures c.loop-c.invariant

pub returns : goal.returns
returns c = characters_end c.loop-c.after c.loop-c.c-iterator.rest.now _ _ c.in-None.ensures.steps.0.0 c.loop-c.invariant
