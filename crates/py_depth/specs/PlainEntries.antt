-- What the code keeps of parts, in plain words. Its stacks have the last at the end.
use Rattle.std.specs.Prelude.{List, map, reverse}
use Rattle.py_nesting.specs.Forms as form_of
use Rattle.py_lexer.specs.PlainTokens.{plain_place}
use Rattle.py_nesting.specs.Shapes as meaning
use Rattle.py_nesting.specs.Outlines as outline
use Rattle.py_depth.specs.declared.shape.TokenForm.{TokenForm}
use Rattle.py_depth.specs.declared.shape.TokenForm.TheVariants as token_form
use Rattle.py_depth.specs.declared.shape.ExprForm.{ExprForm}
use Rattle.py_depth.specs.declared.shape.ExprForm.TheVariants as form
use Rattle.py_depth.specs.declared.shape.LoopTargetForm.{LoopTargetForm}
use Rattle.py_depth.specs.declared.shape.LoopTargetForm.TheVariants as loop_target
use Rattle.py_depth.specs.declared.shape.ClassNameForm.{ClassNameForm}
use Rattle.py_depth.specs.declared.shape.ClassNameForm.TheVariants as class_name
use Rattle.py_depth.specs.declared.shape.StmtForm.{StmtForm}
use Rattle.py_depth.specs.declared.shape.StmtForm.TheVariants as stmt
use Rattle.py_depth.specs.declared.shape.Shape.{Shape}
use Rattle.py_depth.specs.declared.shape.Shape.TheVariants as shape
use Rattle.py_depth.specs.declared.shape.Entry.{Entry}
use Rattle.py_depth.specs.declared.event.Label.{Label}
use Rattle.py_depth.specs.declared.event.Label.TheVariants as label
use Rattle.py_depth.specs.declared.event.Event.{Event}
use Rattle.py_depth.specs.declared.event.Event.TheVariants as event

abbrev pub plain_token_form : TokenForm → form_of.TokenForm
plain_token_form token_form.Name = form_of.NameToken
plain_token_form token_form.Literal = form_of.LiteralToken
plain_token_form token_form.Other = form_of.OtherToken

abbrev pub plain_form : ExprForm → form_of.ExprForm
plain_form form.Name = form_of.NameForm
plain_form form.Target = form_of.TargetForm
plain_form form.Subscript = form_of.SubscriptForm
plain_form (form.Tuple b) = form_of.TupleForm b
plain_form (form.Bracket b) = form_of.BracketForm b
plain_form form.Comprehension = form_of.ComprehensionForm
plain_form form.Dict = form_of.DictForm
plain_form form.Call = form_of.CallForm
plain_form (form.Slice b) = form_of.SliceForm b
plain_form form.Compare = form_of.CompareForm
plain_form form.And = form_of.AndForm
plain_form form.Or = form_of.OrForm
plain_form form.Other = form_of.OtherForm

abbrev pub plain_loop_target_form : LoopTargetForm → form_of.LoopTargetForm
plain_loop_target_form loop_target.OneName = form_of.OneName
plain_loop_target_form loop_target.SomeNames = form_of.SomeNames
plain_loop_target_form loop_target.InBrackets = form_of.NamesInBrackets

abbrev pub plain_class_name_form : ClassNameForm → form_of.ClassNameForm
plain_class_name_form class_name.Bare = form_of.BareName
plain_class_name_form class_name.Dotted = form_of.DottedName

abbrev pub plain_stmt_form : StmtForm → form_of.StmtForm
plain_stmt_form stmt.Global = form_of.GlobalStmt
plain_stmt_form stmt.Try = form_of.TryStmt
plain_stmt_form stmt.Def = form_of.DefStmt
plain_stmt_form stmt.Class = form_of.ClassStmt
plain_stmt_form stmt.Other = form_of.OtherStmt

abbrev pub plain_shape : Shape → meaning.Shape
plain_shape (shape.Token f) = meaning.TokenShape (plain_token_form f)
plain_shape (shape.Expr f full) = meaning.ExprShape (plain_form f) full
plain_shape shape.Sign = meaning.SignShape
plain_shape shape.Loop = meaning.LoopShape
plain_shape (shape.LoopTarget f named) = meaning.LoopTargetShape (plain_loop_target_form f) named
plain_shape shape.Targets = meaning.TargetsShape
plain_shape (shape.Class f) = meaning.ClassShape (plain_class_name_form f)
plain_shape (shape.Stmt f filled) = meaning.StmtShape (plain_stmt_form f) filled
plain_shape (shape.Body filled) = meaning.BodyShape filled

abbrev pub plain_entry : Entry → meaning.Entry
plain_entry x = meaning.entry (plain_shape x.shape) (plain_place x.place)

abbrev pub plain_label : Label → outline.Label
plain_label label.Plain = outline.Plain
plain_label label.Bracket = outline.Bracket
plain_label label.Tuple = outline.Tuple

abbrev pub plain_event : Event → outline.Event
plain_event (event.Over l p n) = outline.Over (plain_label l) (plain_place p) n
plain_event (event.Gather n) = outline.Gather n
plain_event (event.Join l) = outline.Join (plain_label l)
plain_event event.JoinGroup = outline.JoinGroup
plain_event event.Loosen = outline.Loosen
plain_event event.Assign = outline.Assign
plain_event event.Forget = outline.Forget

-- the last first
unfoldable pub entries_of : List Entry → List meaning.Entry
entries_of entries = map plain_entry (reverse entries)

unfoldable pub events_of : List Event → List outline.Event
events_of events = map plain_event (reverse events)
