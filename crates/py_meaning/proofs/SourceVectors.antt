-- Some texts and the modules that they are, worked out by hand, and texts that are none.
use Rattle.std.proofs.Common.{◌≡◌, ℕ, ◌<◌, ◌≤◌, ◌==◌, Bool, true, false, if◌then◌else◌, ◌&&◌, List, [], ◌∷◌, length, take, drop, codes, Option, Some, None, refl, sym, ap, ◌∙◌, subst, lit≤, eq-eqb, ltb-true}
use Rattle.std.specs.Prelude.{nat_lt, IsAscii}
use Rattle.std.specs.List.{list_all}
use Rattle.std.proofs.lemmas.List.{append_cancel_right, take-append-drop}
use Rattle.std.proofs.lemmas.Str.{utf8_valid_len-IsUtf8, chars-IsAscii, IsUtf8-from_ascii}
use Rattle.std.proofs.lemmas.Str.Ascii.{IsAscii-nil, IsAscii-cons}
use Rattle.runs.specs.Number.{W32}
use Rattle.py_tokens.specs.Token.{Place, Token as TextToken, Outcome, Tokens, Refused}
use Rattle.py_tokens.specs.Tokens.{tokens_of, tokens_of_characters, beginning, unmarked}
use Rattle.grammars.specs.Run.{Outcome as RunOutcome, Done, Stuck, run}
use Rattle.py_syntax.specs.Token.{Token}
use Rattle.py_syntax.specs.Tree as whole
use Rattle.py_syntax.specs.Build.{Parts, PBody}
use Rattle.py_syntax.specs.Grammar.{IsModule}
use Rattle.py_syntax.specs.Heights.{body_height}
use Rattle.py_syntax.specs.Table.{table, sets}
use Rattle.py_syntax.specs.Laws.{goal, start, finished, IsLongestFront}
use Rattle.py_syntax.proofs.TableLaws.{run_builds_tree, stuck_at_longest_front}
use Rattle.py_meaning.specs.Name.{Name}
use Rattle.py_meaning.specs.Tree.{Add, LessThan, EqualTo, Comparison, EName, ENumber, EBinary, Condition, CCompare, Stmt, SAssign, SPrint, SIf, Body, none, more}
use Rattle.py_meaning.specs.Rules.{are_reads_sure}
use Rattle.py_meaning.specs.Built.{built_body, unbuilt, first_place}
use Rattle.py_meaning.specs.Source.{IsText, IsSource, names_of, grammar_tokens}

-- ---- texts of ASCII characters, whose bytes are their characters

abbrev pub is_ascii : List ℕ → Bool
is_ascii = list_all (λ b. nat_lt b 128)

both : (a b : Bool) → (a && b) ≡ true → (a ≡ true) × (b ≡ true)
both true true h = (refl, refl)
both true false h = absurd (cc)
both false b h = absurd (cc)

below : (m n : ℕ) → nat_lt m n ≡ true → m < n
below m n h = ltb-true m n h

ascii : (text : List ℕ) → is_ascii text ≡ true → IsAscii text
ascii [] h = IsAscii-nil
ascii (b ∷ text) h = let p = both (nat_lt b 128) (is_ascii text) h in IsAscii-cons b text (below b 128 p.0) (ascii text p.1)

whole_text : (n m : ℕ) (o e : Outcome) → n ≡ m → (if n == m then o else e) ≡ o
whole_text n m o e h = rw h (go (m == m) refl)
  where
    go : (b : Bool) → (m == m) ≡ b → (if b then o else e) ≡ o
    go true q = refl
    go false q = absurd (let r : (m == m) ≡ true = eq-eqb m m refl in cc)

-- the tokens of such a text
pub ascii_tokens : (text : List ℕ) → is_ascii text ≡ true → tokens_of 0 W32 text ≡ tokens_of_characters W32 (beginning 0) (unmarked text)
ascii_tokens text h =
    let a = ascii text h in
    whole_text _ (length text) _ _ (utf8_valid_len-IsUtf8 text (IsUtf8-from_ascii text a))
    ∙ ap (λ (z : List ℕ). tokens_of_characters W32 (beginning 0) (unmarked z)) (chars-IsAscii text a)

-- ---- modules: the text's tokens, the tree that the table builds of them, and what is built of the tree

abbrev tokens_in : Outcome → List TextToken
tokens_in (Tokens ts) = ts
tokens_in (Refused r p) = []

abbrev pub tokens : List ℕ → List TextToken
tokens text = tokens_in (tokens_of_characters W32 (beginning 0) (unmarked text))

abbrev tree_in : RunOutcome Token Parts → whole.Body
tree_in (Done (PBody b ∷ v)) = b
tree_in o = whole.no_stmts

abbrev pub tree : ℕ → List ℕ → whole.Body
tree n text = tree_in (run table sets n goal start (grammar_tokens (tokens text)))

-- n steps of the run read the tokens as this tree, so they spell it
pub spelt_text : (n : ℕ) (text : List ℕ) → run table sets n goal start (grammar_tokens (tokens text)) ≡ Done (finished (tree n text))
    → IsModule (tree n text) (grammar_tokens (tokens text))
spelt_text n text read =
    let t = run_builds_tree n (grammar_tokens (tokens text)) (finished (tree n text)) read in
    subst (λ (b : whole.Body). IsModule b (grammar_tokens (tokens text))) (same_body t.0 (tree n text) t.1) t.2
  where
    same_body : (a b : whole.Body) → finished b ≡ finished a → a ≡ b
    same_body a b h = (cc)

pub read_text : (n : ℕ) (text : List ℕ) → is_ascii text ≡ true → tokens_of_characters W32 (beginning 0) (unmarked text) ≡ Tokens (tokens text)
    → run table sets n goal start (grammar_tokens (tokens text)) ≡ Done (finished (tree n text)) → body_height (tree n text) ≤ 101
    → IsText text (tree n text) (names_of (tokens text))
read_text n text a lexed read shallow =
    record { tokens = tokens text; lexed = ascii_tokens text a ∙ lexed; numbering = refl; spelt = spelt_text n text read; shallow = shallow }

pub source : (n : ℕ) (text : List ℕ) (body : Body) → is_ascii text ≡ true → tokens_of_characters W32 (beginning 0) (unmarked text) ≡ Tokens (tokens text)
    → run table sets n goal start (grammar_tokens (tokens text)) ≡ Done (finished (tree n text)) → body_height (tree n text) ≤ 101
    → built_body (names_of (tokens text)) (tree n text) ≡ Some body → are_reads_sure [] body ≡ true → IsSource text body
source n text body a lexed read shallow built sure =
    record { tree = tree n text; names = names_of (tokens text); read = read_text n text a lexed read shallow; built = built; sure = sure }

-- where a run of n steps is stuck behind k tokens, they are the longest front
pub longest_front : (n k : ℕ) (text : List ℕ)
    → run table sets n goal start (grammar_tokens (tokens text)) ≡ Stuck (drop k (grammar_tokens (tokens text)))
    → IsLongestFront (take k (grammar_tokens (tokens text))) (drop k (grammar_tokens (tokens text)))
longest_front n k text read =
    let ts = grammar_tokens (tokens text) in
    let l = stuck_at_longest_front n ts (drop k ts) read in
    let front : take k ts ≡ l.0 = append_cancel_right (take k ts) l.0 (drop k ts) (take-append-drop k ts ∙ l.1) in
    subst (λ (f : List Token). IsLongestFront f (drop k ts)) (sym front) l.2

abbrev pub at : ℕ → ℕ → Place
at line column = record { «module» = 0; line = line; column = column }

abbrev x : Name
x = codes "x"

abbrev pub sum_text : List ℕ
sum_text = codes "x = 1\nprint(x + 2)\n"

abbrev pub sum_body : Body
sum_body =
    more (SAssign (at 1 1) x (ENumber (at 1 5) 1))
    (more (SPrint (at 2 1) (at 2 6) (EBinary (at 2 9) Add (EName (at 2 7) x) (ENumber (at 2 11) 2))) none)

pub sum_is_source : IsSource sum_text sum_body
unfolding lib.Utf8.encode
sum_is_source = source 400 sum_text sum_body refl refl refl (lit≤ tt) refl refl

pub nothing_is_source : IsSource [] none
unfolding lib.Utf8.encode
nothing_is_source = source 20 [] none refl refl refl (lit≤ tt) refl refl

-- however it is spelt: blocks on the lines of their heads, `elif`, `;`, a tab, a comment, another base, no last line end
abbrev short_text : List ℕ
short_text = codes "x = 0x1_0\nif x < 1: print(1)\nelif x == 2:\n\tprint(2,); x = 3\nelse: print(4) # four"

abbrev less : Place → Comparison → Place → Place → ℕ → Condition
less p o q r n = CCompare p o (EName q x) (ENumber r n)

abbrev printed : Place → Place → Place → ℕ → Stmt
printed p q r n = SPrint p q (ENumber r n)

abbrev short_body : Body
short_body =
    more (SAssign (at 1 1) x (ENumber (at 1 5) 16))
    (more (SIf (at 2 1) (less (at 2 6) LessThan (at 2 4) (at 2 8) 1) (more (printed (at 2 11) (at 2 16) (at 2 17) 1) none)
    (more (SIf (at 3 1) (less (at 3 8) EqualTo (at 3 6) (at 3 11) 2)
    (more (printed (at 4 2) (at 4 7) (at 4 8) 2) (more (SAssign (at 4 13) x (ENumber (at 4 17) 3)) none))
    (more (printed (at 5 7) (at 5 12) (at 5 13) 4) none)) none)) none)

short_is_source : IsSource short_text short_body
unfolding lib.Utf8.encode
short_is_source = source 2000 short_text short_body refl refl refl (lit≤ tt) refl refl

-- ---- the first place that isn't built

abbrev first_unbuilt : ℕ → List ℕ → Option Place
first_unbuilt n text = first_place (unbuilt (names_of (tokens text)) [] (tree n text))

nothing_unbuilt_there : first_unbuilt 400 sum_text ≡ None
unfolding lib.Utf8.encode
nothing_unbuilt_there = refl

-- a parenthesis, a division to the floor behind a sum, a read that may be unset, and a comparison that is a value
parenthesis : first_unbuilt 400 (codes "x = (1)\n") ≡ Some (at 1 5)
unfolding lib.Utf8.encode
parenthesis = refl

floor_division : first_unbuilt 400 (codes "x = 1 + 2 // 3\n") ≡ Some (at 1 11)
unfolding lib.Utf8.encode
floor_division = refl

unset_before_attribute : first_unbuilt 400 (codes "x = y.a\n") ≡ Some (at 1 5)
unfolding lib.Utf8.encode
unset_before_attribute = refl

set_before_attribute : first_unbuilt 800 (codes "y = 1\nx = y.a\n") ≡ Some (at 2 6)
unfolding lib.Utf8.encode
set_before_attribute = refl

compared : first_unbuilt 400 (codes "x = 1 < 2\n") ≡ Some (at 1 7)
unfolding lib.Utf8.encode
compared = refl

-- what is tested is one comparison
tested_name : first_unbuilt 800 (codes "x = 1\nif x: x = 2\n") ≡ Some (at 2 4)
unfolding lib.Utf8.encode
tested_name = refl

chained : first_unbuilt 800 (codes "while 1 < 2 < 3: print(1)\n") ≡ Some (at 1 9)
unfolding lib.Utf8.encode
chained = refl

-- statements of other forms, at their first token
two_arguments : first_unbuilt 800 (codes "print(1)\nprint(1, 2)\n") ≡ Some (at 2 1)
unfolding lib.Utf8.encode
two_arguments = refl

two_targets : first_unbuilt 800 (codes "x = 1; y = x = 2\n") ≡ Some (at 1 8)
unfolding lib.Utf8.encode
two_targets = refl

function : first_unbuilt 800 (codes "def f(x): return x\n") ≡ Some (at 1 1)
unfolding lib.Utf8.encode
function = refl

-- an assignment in a block may not have run
set_in_block : first_unbuilt 800 (codes "if 1 < 2: x = 1\nprint(x)\n") ≡ Some (at 2 7)
unfolding lib.Utf8.encode
set_in_block = refl
