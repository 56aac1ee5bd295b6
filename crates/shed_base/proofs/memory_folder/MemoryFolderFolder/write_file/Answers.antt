use Rattle.std.proofs.Common.{◌/◌, length, arith}
use Rattle.std.proofs.lemmas.Grind.{common_steps}
use Rattle.shed_base.proofs.memory_folder.MemoryFolderFolder.write_file.Goals as goal

pub returns-then-next_fails-clause-written : goal.returns-then-next_fails-clause-written
returns-then-next_fails-clause-written c = (length c.args.bytes.now / 2, grind (arith, common_steps))
