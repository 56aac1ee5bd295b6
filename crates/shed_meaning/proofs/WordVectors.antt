-- What some words of the command line say, and what is said of each ending of the command.
use Rattle.std.proofs.Common.{◌≡◌, ℕ, List, [], ◌∷◌, Some, None, refl, codes}
use Rattle.std.specs.Fmt.{digits}
use Rattle.py_tokens.specs.Token.{Place, MixedTabs, TooLong, TName, TNumber, TText, TDedent}
use Rattle.shed_meaning.specs.Words.{reading}
use Rattle.shed_meaning.specs.TokenText.{token_text}
use Rattle.py_constructs.specs.Construct.{FormattedText}
use Rattle.shed_meaning.specs.Fault.{Fault, BadToken, Unexpected, Outside, TooDeep, Unbuilt}
use Rattle.shed_meaning.specs.Outcome.{Translated, Unread, Missing, TooLarge, Faulty, ReadFailed, WriteFailed, OutOfMemory, status_of, message_of}

-- ---- words

name_alone : reading (codes "translate" ∷ codes "main" ∷ []) ≡ Some (codes "main")
name_alone = refl

name_of_file : reading (codes "translate" ∷ codes "main.py" ∷ []) ≡ Some (codes "main")
name_of_file = refl

module_name : reading (codes "translate" ∷ codes "__name__" ∷ []) ≡ Some (codes "__name__")
module_name = refl

-- letters of both kinds, digits and underscores
all_kinds : reading (codes "translate" ∷ codes "_aZ09_.py" ∷ []) ≡ Some (codes "_aZ09_")
all_kinds = refl

-- `print` and `match` are no keywords, and a keyword may begin a name
no_keywords : (reading (codes "translate" ∷ codes "print" ∷ []) ≡ Some (codes "print")) × (reading (codes "translate" ∷ codes "match" ∷ []) ≡ Some (codes "match")) × (reading (codes "translate" ∷ codes "iffy" ∷ []) ≡ Some (codes "iffy"))
no_keywords = (refl, refl, refl)

no_words : reading [] ≡ None
no_words = refl

no_name : reading (codes "translate" ∷ []) ≡ None
no_name = refl

two_names : reading (codes "translate" ∷ codes "main" ∷ codes "main" ∷ []) ≡ None
two_names = refl

other_command : (reading (codes "run" ∷ codes "main" ∷ []) ≡ None) × (reading (codes "Translate" ∷ codes "main" ∷ []) ≡ None) × (reading ([] ∷ codes "main" ∷ []) ≡ None)
other_command = (refl, refl, refl)

unknown_flag : reading (codes "translate" ∷ codes "-q" ∷ codes "main" ∷ []) ≡ None
unknown_flag = refl

flag_for_name : reading (codes "translate" ∷ codes "-q" ∷ []) ≡ None
flag_for_name = refl

digit_first : reading (codes "translate" ∷ codes "1x" ∷ []) ≡ None
digit_first = refl

keywords : (reading (codes "translate" ∷ codes "if" ∷ []) ≡ None) × (reading (codes "translate" ∷ codes "None.py" ∷ []) ≡ None) × (reading (codes "translate" ∷ codes "yield" ∷ []) ≡ None)
keywords = (refl, refl, refl)

-- the stem `main.py` has a dot
ending_twice : reading (codes "translate" ∷ codes "main.py.py" ∷ []) ≡ None
ending_twice = refl

-- the empty word, the ending alone, another ending, a folder, and a space
no_names : (reading (codes "translate" ∷ [] ∷ []) ≡ None) × (reading (codes "translate" ∷ codes ".py" ∷ []) ≡ None) × (reading (codes "translate" ∷ codes "main.PY" ∷ []) ≡ None) × (reading (codes "translate" ∷ codes "a/main" ∷ []) ≡ None) × (reading (codes "translate" ∷ codes "main " ∷ []) ≡ None)
no_names = (refl, refl, refl, refl, refl)

-- é, in UTF-8
beyond_ascii : reading (codes "translate" ∷ (195 ∷ 169 ∷ []) ∷ []) ≡ None
beyond_ascii = refl

-- ---- endings

said_nothing : (message_of Translated ≡ []) × (status_of Translated ≡ 0)
said_nothing = (refl, refl)

said_usage : (message_of Unread ≡ codes "usage: shed translate [-l] [-b] [-w] [-o] [-a] [-m FILE] NAME | run [--ticks N] NAME | bulk SEED COUNT\n") × (status_of Unread ≡ 2)
said_usage = (refl, refl)

said_missing : (message_of (Missing (codes "main")) ≡ codes "main.py: M1 Missing main\n") × (status_of (Missing (codes "main")) ≡ 3)
said_missing = (refl, refl)

said_too_large : (message_of (TooLarge (codes "main")) ≡ codes "shed: M6 TooLarge main\n") × (status_of (TooLarge (codes "main")) ≡ 5)
said_too_large = (refl, refl)

abbrev at : ℕ → ℕ → Place
at line column = record { «module» = 0; line = line; column = column }

-- a fault of the module `main` is said so, with this status
abbrev Said : Fault → List ℕ → ℕ → Type 0
Said fault message status = (message_of (Faulty (codes "main") fault) ≡ message) × (status_of (Faulty (codes "main") fault) ≡ status)

said_bad_token : Said (BadToken MixedTabs (at 12 3)) (codes "main.py:12:3: L4 MixedTabs\n") 3
unfolding digits
said_bad_token = (refl, refl)

-- a name that is too long passes a limit
said_too_long : Said (BadToken TooLong (at 2 100)) (codes "main.py:2:100: L11 TooLong\n") 5
unfolding digits
said_too_long = (refl, refl)

said_unexpected : Said (Unexpected (at 3 4) (codes "else")) (codes "main.py:3:4: P1 Unexpected else\n") 3
unfolding digits
said_unexpected = (refl, refl)

said_outside : Said (Outside (at 1 8) FormattedText) (codes "main.py:1:8: P2 Outside fstring\n") 3
unfolding digits
said_outside = (refl, refl)

said_unbuilt : Said (Unbuilt (at 1 7)) (codes "main.py:1:7: P2 Outside unbuilt\n") 3
unfolding digits
said_unbuilt = (refl, refl)

-- nesting that is too deep passes a limit
said_too_deep : Said (TooDeep (at 1 105)) (codes "main.py:1:105: P3 TooDeep\n") 5
unfolding digits
said_too_deep = (refl, refl)

-- tokens as they are printed
numbers_and_words : (token_text (TNumber 1024) ≡ codes "1024") × (token_text (TName (codes "x")) ≡ codes "x") × (token_text TDedent ≡ codes "DEDENT")
unfolding digits
numbers_and_words = (refl, refl, refl)

-- a text as `repr` has it: quotes, a backslash, line ends and tabs, and other control characters
texts : (token_text (TText (codes "it's")) ≡ codes "\"it's\"") × (token_text (TText (codes "'\"")) ≡ codes "'\\'\"'")
    × (token_text (TText (codes "\\a\n\r\t")) ≡ codes "'\\\\a\\n\\r\\t'") × (token_text (TText (0 ∷ 31 ∷ 127 ∷ [])) ≡ codes "'\\x00\\x1f\\x7f'")
texts = (refl, refl, refl, refl)

said_read_failed : (message_of ReadFailed ≡ codes "shed: read fault\n") × (status_of ReadFailed ≡ 6)
said_read_failed = (refl, refl)

said_write_failed : (message_of WriteFailed ≡ codes "shed: write fault\n") × (status_of WriteFailed ≡ 7)
said_write_failed = (refl, refl)

said_no_memory : (message_of OutOfMemory ≡ codes "shed: no memory\n") × (status_of OutOfMemory ≡ 8)
said_no_memory = (refl, refl)
