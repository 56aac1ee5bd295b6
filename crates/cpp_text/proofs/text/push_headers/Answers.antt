use Rattle.std.proofs.Common.{refl}
use Rattle.std.specs.Prelude.{map}
use Rattle.cpp_meaning.specs.Text.{header_file, header_files}
use Rattle.cpp_ast.specs.Plain.{plain_module}
use Rattle.cpp_text.proofs.FilesGrow.{files_step}
use Rattle.cpp_text.proofs.text.push_headers.Goals as goal

pub loop-module-preserved : goal.loop-module-preserved
loop-module-preserved c =
    files_step (λ m. header_file (plain_module m)) (λ ms. header_files (map plain_module ms)) (λ m ms. refl) _ _ _ c.in_ok-header_of.field-0 c.args.modules.now c.loop-module.module-index c.module-item.result c.loop-module-test.true c.module-item.is c.in_ok-push.ensures.items c.in_ok-header_of.ensures c.loop-module.invariant
