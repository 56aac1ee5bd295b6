use Rattle.std.proofs.Common.{Some, None}
use Rattle.py_outside.proofs.Taken.{profile_taken, own_row_taken}
use Rattle.py_outside.proofs.table.taken_at.Goals as goal

pub returns-in-Some : goal.returns-in-Some
returns-in-Some c = λ w. rw c.in-Profile.is (profile_taken c.in-Profile.rows.now c.args.number (Some c.in-Some.row.now) (rw c.in-Some.is at c.at.ensures))

pub returns-in-None : goal.returns-in-None
returns-in-None c = λ w. rw c.in-Profile.is (profile_taken c.in-Profile.rows.now c.args.number None (rw c.in-None.is at c.at.ensures))

pub returns-in-Some-at : goal.returns-in-Some-at
returns-in-Some-at c = λ w. rw c.in-Own.is (own_row_taken w c.in-Own.rows.now c.args.number (Some c.in-Some-at.row.now) (rw c.in-Some-at.is at c.at-in-Own.ensures))

pub returns-in-None-at : goal.returns-in-None-at
returns-in-None-at c = λ w. rw c.in-Own.is (own_row_taken w c.in-Own.rows.now c.args.number None (rw c.in-None-at.is at c.at-in-Own.ensures))
