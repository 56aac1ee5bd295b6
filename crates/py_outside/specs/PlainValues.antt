-- What is kept of a text, as the plain values that definitions speak of. The stack of items has its last at the end.
use Rattle.std.specs.Prelude.{◌≡◌, false, List, [], ◌∷◌, map, reverse, Option, Some, None}
use Rattle.std.specs.Option.{option_map}
use Rattle.py_constructs.specs.Values as meaning
use Rattle.py_lexer.specs.PlainTokens.{plain_place}
use Rattle.py_outside.specs.declared.item.TokenSort.{TokenSort}
use Rattle.py_outside.specs.declared.item.TokenSort.TheVariants as sort
use Rattle.py_outside.specs.declared.item.Reading.{Reading}
use Rattle.py_outside.specs.declared.item.Numbered.{Numbered}
use Rattle.py_outside.specs.declared.item.Item.{Item}
use Rattle.py_outside.specs.declared.item.Item.TheVariants as item
use Rattle.py_outside.specs.declared.left.Mark.{Mark}
use Rattle.py_outside.specs.declared.left.Mark.TheVariants as mark
use Rattle.py_outside.specs.declared.left.Level.{Level}
use Rattle.py_outside.specs.declared.left.Left.{Left}
use Rattle.py_outside.specs.declared.targets.Targets.{Targets}
use Rattle.py_outside.specs.declared.targets.Targets.TheVariants as targets
use Rattle.py_outside.specs.declared.targets.Widening.{Widening}
use Rattle.py_outside.specs.declared.targets.Widening.TheVariants as widening
use Rattle.py_outside.specs.declared.value.Told.{Told}
use Rattle.py_outside.specs.declared.value.Value.{Value}

abbrev pub plain_sort : TokenSort → meaning.TokenSort
plain_sort sort.Name = meaning.NameToken
plain_sort sort.Open = meaning.OpenToken
plain_sort sort.Loop = meaning.LoopToken
plain_sort sort.Other = meaning.OtherToken

abbrev pub plain_numbered : Numbered → meaning.Numbered
plain_numbered t = record { number = t.number; place = plain_place t.place }

abbrev pub plain_targets : Targets → meaning.Targets
plain_targets targets.No = meaning.NoTargets
plain_targets targets.Own = meaning.OwnTargets
plain_targets (targets.Sliced head) = meaning.SlicedTargets (plain_numbered head)
plain_targets (targets.Nested head) = meaning.NestedTargets (plain_numbered head)

abbrev pub plain_widening : Widening → meaning.Widening
plain_widening widening.Nothing = meaning.NoWidening
plain_widening widening.Slices = meaning.Slices
plain_widening widening.Brackets = meaning.Brackets

abbrev pub plain_reading : Reading → meaning.Reading
plain_reading r = record { name = r.name; item = plain_targets r.item; whole = plain_targets r.whole; annotable = r.annotable; names = r.names; fresh = r.fresh }

abbrev pub plain_item : Item → meaning.Item
plain_item (item.Token s t) = meaning.Token (plain_sort s) t.number (plain_place t.place)
plain_item (item.Expression r) = meaning.Expression (plain_reading r)
plain_item (item.Class bare) = meaning.Class bare
plain_item item.Base = meaning.Base
plain_item item.Other = meaning.Other

-- the last first
unfoldable pub items_of : List Item → List meaning.Item
items_of items = map plain_item (reverse items)

abbrev pub plain_mark : Mark → meaning.Mark
plain_mark mark.Word = meaning.Word
plain_mark mark.Dot = meaning.Dot
plain_mark mark.Bracket = meaning.Bracket
plain_mark mark.Brace = meaning.Brace
plain_mark mark.Closing = meaning.Closing
plain_mark mark.Comma = meaning.Comma
plain_mark mark.Break = meaning.Break
plain_mark mark.Sign = meaning.Sign

abbrev pub plain_level : Level → meaning.Level
plain_level l = record { may = l.may; head = option_map plain_numbered l.head }

-- the last first
unfoldable pub levels_of : List Level → List meaning.Level
levels_of levels = map plain_level (reverse levels)

abbrev pub plain_left : Left → meaning.Left
plain_left s = record { here = plain_level s.here; begun = s.begun; outer = levels_of s.outer.items }

-- what was on top of a stack, and what is left of it
abbrev pub IsPopped : List meaning.Level → Option meaning.Level → List meaning.Level → Type 0
IsPopped levels None others = (levels ≡ []) × (others ≡ [])
IsPopped levels (Some l) others = levels ≡ l ∷ others

abbrev pub plain_told : Told → meaning.Told
plain_told t = record { head = plain_numbered t.head; known = t.known }

abbrev pub plain_value : Value → meaning.Value
plain_value v = record { read = v.read; told = option_map plain_told v.told; held = option_map plain_numbered v.held; bracket = option_map plain_numbered v.bracket; left = plain_left v.left; items = items_of v.items.items }

-- what the last item may be, where it is an expression
abbrev pub last_reading : List meaning.Item → meaning.Reading
last_reading (meaning.Expression r ∷ items) = r
last_reading items = record { name = false; item = meaning.NoTargets; whole = meaning.NoTargets; annotable = false; names = false; fresh = false }
