-- The token of each kind that a row reads.
use Rattle.std.proofs.Common.{◌≡◌, ℕ, zero, suc, ◌+◌, ◌<◌, ◌≤◌, Bool, true, false, if◌then◌else◌, List, [], ◌∷◌, codes, length, refl, sym, ap, arith}
use Rattle.std.specs.Str.{bytes_eq}
use Rattle.std.proofs.lemmas.Slice.Eq.{bytes_eq-Decides}
use Rattle.py_tokens.specs.Token.{Place}
use Rattle.py_tokens.specs.Lexeme.{keywords, operators}
use Rattle.py_syntax.specs.Token.{Name, TName, TKeyword, TOperator, TNumber, TText, TNewline, TIndent, TDedent, Token, At}
use Rattle.py_syntax.specs.Kinds.{place_among, spelling_at, kind_of}
use Rattle.py_syntax.specs.Grammar.{word, sign}

-- a spelling that stands at a place is the one at that place
spelling_is : (spellings : List (List ℕ)) (s : List ℕ) (n : ℕ) → n < length spellings → place_among spellings s ≡ n → s ≡ spelling_at spellings n
spelling_is [] s n l h = absurd (omega arith)
spelling_is (first ∷ others) s n l h = step (bytes_eq first s) refl n l h (spelling_is others s)
  where
    step : (b : Bool) → bytes_eq first s ≡ b → (n : ℕ) → n < suc (length others) → (if b then 0 else suc (place_among others s)) ≡ n
        → ((n : ℕ) → n < length others → place_among others s ≡ n → s ≡ spelling_at others n) → s ≡ spelling_at (first ∷ others) n
    step true e zero l h rec = sym ((bytes_eq-Decides first s).0 e)
    step true e (suc n) l h rec = absurd (omega arith)
    step false e zero l h rec = absurd (omega arith)
    step false e (suc n) l h rec = rec n (omega arith) (omega arith)

pub no_more : (spellings : List (List ℕ)) (s : List ℕ) → place_among spellings s ≤ length spellings
no_more [] s = omega arith
no_more (first ∷ others) s = step (bytes_eq first s) (no_more others s)
  where
    step : (b : Bool) → place_among others s ≤ length others → (if b then 0 else suc (place_among others s)) ≤ suc (length others)
    step true h = omega arith
    step false h = omega arith

keyword_is : (t : Token) (n : ℕ) → n < 35 → kind_of t ≡ 11 + n → (p : Place) × (t ≡ word p (spelling_at keywords n))
keyword_is (At p (TKeyword s)) n l h =
    let bound : n < length keywords = l in
    let found : place_among keywords s ≡ n = omega arith in
    (p, ap (word p) (spelling_is keywords s n bound found))
keyword_is (At p (TName true x)) n l h = absurd (omega arith)
keyword_is (At p (TName false x)) n l h = absurd (omega arith)
keyword_is (At p _) n l h = absurd (omega arith)

operator_is : (t : Token) (n : ℕ) → n < 47 → kind_of t ≡ 47 + n → (p : Place) × (t ≡ sign p (spelling_at operators n))
operator_is (At p (TOperator s)) n l h =
    let bound : n < length operators = l in
    let found : place_among operators s ≡ n = omega arith in
    (p, ap (sign p) (spelling_is operators s n bound found))
operator_is (At p (TKeyword s)) n l h =
    let most : place_among keywords s ≤ 35 = no_more keywords s in absurd (omega arith)
operator_is (At p (TName true x)) n l h = absurd (omega arith)
operator_is (At p (TName false x)) n l h = absurd (omega arith)
operator_is (At p _) n l h = absurd (omega arith)

pub ascii_name_is : (t : Token) → kind_of t ≡ 1 → (p : Place) × (x : Name) × (t ≡ At p (TName true x))
ascii_name_is (At p (TName true x)) h = (p, x, refl)
ascii_name_is (At p (TName false x)) h = absurd (omega arith)
ascii_name_is (At p _) h = absurd (omega arith)

pub other_name_is : (t : Token) → kind_of t ≡ 0 → (p : Place) × (x : Name) × (t ≡ At p (TName false x))
other_name_is (At p (TName false x)) h = (p, x, refl)
other_name_is (At p (TName true x)) h = absurd (omega arith)
other_name_is (At p _) h = absurd (omega arith)

pub number_is : (t : Token) → kind_of t ≡ 2 → (p : Place) × (n : ℕ) × (t ≡ At p (TNumber n))
number_is (At p (TNumber n)) h = (p, n, refl)
number_is (At p (TName true x)) h = absurd (omega arith)
number_is (At p (TName false x)) h = absurd (omega arith)
number_is (At p _) h = absurd (omega arith)

pub text_is : (t : Token) → kind_of t ≡ 3 → (p : Place) × (s : List ℕ) × (t ≡ At p (TText s))
text_is (At p (TText s)) h = (p, s, refl)
text_is (At p (TName true x)) h = absurd (omega arith)
text_is (At p (TName false x)) h = absurd (omega arith)
text_is (At p _) h = absurd (omega arith)

pub newline_is : (t : Token) → kind_of t ≡ 8 → (p : Place) × (t ≡ At p TNewline)
newline_is (At p TNewline) h = (p, refl)
newline_is (At p (TName true x)) h = absurd (omega arith)
newline_is (At p (TName false x)) h = absurd (omega arith)
newline_is (At p _) h = absurd (omega arith)

pub indent_is : (t : Token) → kind_of t ≡ 9 → (p : Place) × (t ≡ At p TIndent)
indent_is (At p TIndent) h = (p, refl)
indent_is (At p (TName true x)) h = absurd (omega arith)
indent_is (At p (TName false x)) h = absurd (omega arith)
indent_is (At p _) h = absurd (omega arith)

pub dedent_is : (t : Token) → kind_of t ≡ 10 → (p : Place) × (t ≡ At p TDedent)
dedent_is (At p TDedent) h = (p, refl)
dedent_is (At p (TName true x)) h = absurd (omega arith)
dedent_is (At p (TName false x)) h = absurd (omega arith)
dedent_is (At p _) h = absurd (omega arith)

pub the_false_is : (t : Token) → kind_of t ≡ 11 → (p : Place) × (t ≡ word p (codes "False"))
the_false_is t h = keyword_is t 0 (omega arith) h

pub the_none_is : (t : Token) → kind_of t ≡ 12 → (p : Place) × (t ≡ word p (codes "None"))
the_none_is t h = keyword_is t 1 (omega arith) h

pub the_true_is : (t : Token) → kind_of t ≡ 13 → (p : Place) × (t ≡ word p (codes "True"))
the_true_is t h = keyword_is t 2 (omega arith) h

pub the_and_is : (t : Token) → kind_of t ≡ 14 → (p : Place) × (t ≡ word p (codes "and"))
the_and_is t h = keyword_is t 3 (omega arith) h

pub the_as_is : (t : Token) → kind_of t ≡ 15 → (p : Place) × (t ≡ word p (codes "as"))
the_as_is t h = keyword_is t 4 (omega arith) h

pub the_assert_is : (t : Token) → kind_of t ≡ 16 → (p : Place) × (t ≡ word p (codes "assert"))
the_assert_is t h = keyword_is t 5 (omega arith) h

pub the_break_is : (t : Token) → kind_of t ≡ 19 → (p : Place) × (t ≡ word p (codes "break"))
the_break_is t h = keyword_is t 8 (omega arith) h

pub the_class_is : (t : Token) → kind_of t ≡ 20 → (p : Place) × (t ≡ word p (codes "class"))
the_class_is t h = keyword_is t 9 (omega arith) h

pub the_continue_is : (t : Token) → kind_of t ≡ 21 → (p : Place) × (t ≡ word p (codes "continue"))
the_continue_is t h = keyword_is t 10 (omega arith) h

pub the_def_is : (t : Token) → kind_of t ≡ 22 → (p : Place) × (t ≡ word p (codes "def"))
the_def_is t h = keyword_is t 11 (omega arith) h

pub the_del_is : (t : Token) → kind_of t ≡ 23 → (p : Place) × (t ≡ word p (codes "del"))
the_del_is t h = keyword_is t 12 (omega arith) h

pub the_elif_is : (t : Token) → kind_of t ≡ 24 → (p : Place) × (t ≡ word p (codes "elif"))
the_elif_is t h = keyword_is t 13 (omega arith) h

pub the_else_is : (t : Token) → kind_of t ≡ 25 → (p : Place) × (t ≡ word p (codes "else"))
the_else_is t h = keyword_is t 14 (omega arith) h

pub the_except_is : (t : Token) → kind_of t ≡ 26 → (p : Place) × (t ≡ word p (codes "except"))
the_except_is t h = keyword_is t 15 (omega arith) h

pub the_for_is : (t : Token) → kind_of t ≡ 28 → (p : Place) × (t ≡ word p (codes "for"))
the_for_is t h = keyword_is t 17 (omega arith) h

pub the_from_is : (t : Token) → kind_of t ≡ 29 → (p : Place) × (t ≡ word p (codes "from"))
the_from_is t h = keyword_is t 18 (omega arith) h

pub the_global_is : (t : Token) → kind_of t ≡ 30 → (p : Place) × (t ≡ word p (codes "global"))
the_global_is t h = keyword_is t 19 (omega arith) h

pub the_if_is : (t : Token) → kind_of t ≡ 31 → (p : Place) × (t ≡ word p (codes "if"))
the_if_is t h = keyword_is t 20 (omega arith) h

pub the_import_is : (t : Token) → kind_of t ≡ 32 → (p : Place) × (t ≡ word p (codes "import"))
the_import_is t h = keyword_is t 21 (omega arith) h

pub the_in_is : (t : Token) → kind_of t ≡ 33 → (p : Place) × (t ≡ word p (codes "in"))
the_in_is t h = keyword_is t 22 (omega arith) h

pub the_is_is : (t : Token) → kind_of t ≡ 34 → (p : Place) × (t ≡ word p (codes "is"))
the_is_is t h = keyword_is t 23 (omega arith) h

pub the_not_is : (t : Token) → kind_of t ≡ 37 → (p : Place) × (t ≡ word p (codes "not"))
the_not_is t h = keyword_is t 26 (omega arith) h

pub the_or_is : (t : Token) → kind_of t ≡ 38 → (p : Place) × (t ≡ word p (codes "or"))
the_or_is t h = keyword_is t 27 (omega arith) h

pub the_pass_is : (t : Token) → kind_of t ≡ 39 → (p : Place) × (t ≡ word p (codes "pass"))
the_pass_is t h = keyword_is t 28 (omega arith) h

pub the_raise_is : (t : Token) → kind_of t ≡ 40 → (p : Place) × (t ≡ word p (codes "raise"))
the_raise_is t h = keyword_is t 29 (omega arith) h

pub the_return_is : (t : Token) → kind_of t ≡ 41 → (p : Place) × (t ≡ word p (codes "return"))
the_return_is t h = keyword_is t 30 (omega arith) h

pub the_try_is : (t : Token) → kind_of t ≡ 42 → (p : Place) × (t ≡ word p (codes "try"))
the_try_is t h = keyword_is t 31 (omega arith) h

pub the_while_is : (t : Token) → kind_of t ≡ 43 → (p : Place) × (t ≡ word p (codes "while"))
the_while_is t h = keyword_is t 32 (omega arith) h

pub the_yield_is : (t : Token) → kind_of t ≡ 45 → (p : Place) × (t ≡ word p (codes "yield"))
the_yield_is t h = keyword_is t 34 (omega arith) h

pub the_double_slash_equal_is : (t : Token) → kind_of t ≡ 47 → (p : Place) × (t ≡ sign p (codes "//="))
the_double_slash_equal_is t h = operator_is t 0 (omega arith) h

pub the_double_star_equal_is : (t : Token) → kind_of t ≡ 48 → (p : Place) × (t ≡ sign p (codes "**="))
the_double_star_equal_is t h = operator_is t 1 (omega arith) h

pub the_left_shift_equal_is : (t : Token) → kind_of t ≡ 49 → (p : Place) × (t ≡ sign p (codes "<<="))
the_left_shift_equal_is t h = operator_is t 2 (omega arith) h

pub the_right_shift_equal_is : (t : Token) → kind_of t ≡ 50 → (p : Place) × (t ≡ sign p (codes ">>="))
the_right_shift_equal_is t h = operator_is t 3 (omega arith) h

pub the_double_slash_is : (t : Token) → kind_of t ≡ 52 → (p : Place) × (t ≡ sign p (codes "//"))
the_double_slash_is t h = operator_is t 5 (omega arith) h

pub the_double_star_is : (t : Token) → kind_of t ≡ 53 → (p : Place) × (t ≡ sign p (codes "**"))
the_double_star_is t h = operator_is t 6 (omega arith) h

pub the_left_shift_is : (t : Token) → kind_of t ≡ 54 → (p : Place) × (t ≡ sign p (codes "<<"))
the_left_shift_is t h = operator_is t 7 (omega arith) h

pub the_right_shift_is : (t : Token) → kind_of t ≡ 55 → (p : Place) × (t ≡ sign p (codes ">>"))
the_right_shift_is t h = operator_is t 8 (omega arith) h

pub the_less_equal_is : (t : Token) → kind_of t ≡ 56 → (p : Place) × (t ≡ sign p (codes "<="))
the_less_equal_is t h = operator_is t 9 (omega arith) h

pub the_greater_equal_is : (t : Token) → kind_of t ≡ 57 → (p : Place) × (t ≡ sign p (codes ">="))
the_greater_equal_is t h = operator_is t 10 (omega arith) h

pub the_equal_equal_is : (t : Token) → kind_of t ≡ 58 → (p : Place) × (t ≡ sign p (codes "=="))
the_equal_equal_is t h = operator_is t 11 (omega arith) h

pub the_not_equal_is : (t : Token) → kind_of t ≡ 59 → (p : Place) × (t ≡ sign p (codes "!="))
the_not_equal_is t h = operator_is t 12 (omega arith) h

pub the_plus_equal_is : (t : Token) → kind_of t ≡ 60 → (p : Place) × (t ≡ sign p (codes "+="))
the_plus_equal_is t h = operator_is t 13 (omega arith) h

pub the_minus_equal_is : (t : Token) → kind_of t ≡ 61 → (p : Place) × (t ≡ sign p (codes "-="))
the_minus_equal_is t h = operator_is t 14 (omega arith) h

pub the_star_equal_is : (t : Token) → kind_of t ≡ 62 → (p : Place) × (t ≡ sign p (codes "*="))
the_star_equal_is t h = operator_is t 15 (omega arith) h

pub the_percent_equal_is : (t : Token) → kind_of t ≡ 63 → (p : Place) × (t ≡ sign p (codes "%="))
the_percent_equal_is t h = operator_is t 16 (omega arith) h

pub the_ampersand_equal_is : (t : Token) → kind_of t ≡ 64 → (p : Place) × (t ≡ sign p (codes "&="))
the_ampersand_equal_is t h = operator_is t 17 (omega arith) h

pub the_bar_equal_is : (t : Token) → kind_of t ≡ 65 → (p : Place) × (t ≡ sign p (codes "|="))
the_bar_equal_is t h = operator_is t 18 (omega arith) h

pub the_caret_equal_is : (t : Token) → kind_of t ≡ 66 → (p : Place) × (t ≡ sign p (codes "^="))
the_caret_equal_is t h = operator_is t 19 (omega arith) h

pub the_plus_is : (t : Token) → kind_of t ≡ 71 → (p : Place) × (t ≡ sign p (codes "+"))
the_plus_is t h = operator_is t 24 (omega arith) h

pub the_minus_is : (t : Token) → kind_of t ≡ 72 → (p : Place) × (t ≡ sign p (codes "-"))
the_minus_is t h = operator_is t 25 (omega arith) h

pub the_star_is : (t : Token) → kind_of t ≡ 73 → (p : Place) × (t ≡ sign p (codes "*"))
the_star_is t h = operator_is t 26 (omega arith) h

pub the_percent_is : (t : Token) → kind_of t ≡ 74 → (p : Place) × (t ≡ sign p (codes "%"))
the_percent_is t h = operator_is t 27 (omega arith) h

pub the_ampersand_is : (t : Token) → kind_of t ≡ 75 → (p : Place) × (t ≡ sign p (codes "&"))
the_ampersand_is t h = operator_is t 28 (omega arith) h

pub the_bar_is : (t : Token) → kind_of t ≡ 76 → (p : Place) × (t ≡ sign p (codes "|"))
the_bar_is t h = operator_is t 29 (omega arith) h

pub the_caret_is : (t : Token) → kind_of t ≡ 77 → (p : Place) × (t ≡ sign p (codes "^"))
the_caret_is t h = operator_is t 30 (omega arith) h

pub the_tilde_is : (t : Token) → kind_of t ≡ 78 → (p : Place) × (t ≡ sign p (codes "~"))
the_tilde_is t h = operator_is t 31 (omega arith) h

pub the_less_is : (t : Token) → kind_of t ≡ 79 → (p : Place) × (t ≡ sign p (codes "<"))
the_less_is t h = operator_is t 32 (omega arith) h

pub the_greater_is : (t : Token) → kind_of t ≡ 80 → (p : Place) × (t ≡ sign p (codes ">"))
the_greater_is t h = operator_is t 33 (omega arith) h

pub the_open_parenthesis_is : (t : Token) → kind_of t ≡ 81 → (p : Place) × (t ≡ sign p (codes "("))
the_open_parenthesis_is t h = operator_is t 34 (omega arith) h

pub the_close_parenthesis_is : (t : Token) → kind_of t ≡ 82 → (p : Place) × (t ≡ sign p (codes ")"))
the_close_parenthesis_is t h = operator_is t 35 (omega arith) h

pub the_open_bracket_is : (t : Token) → kind_of t ≡ 83 → (p : Place) × (t ≡ sign p (codes "["))
the_open_bracket_is t h = operator_is t 36 (omega arith) h

pub the_close_bracket_is : (t : Token) → kind_of t ≡ 84 → (p : Place) × (t ≡ sign p (codes "]"))
the_close_bracket_is t h = operator_is t 37 (omega arith) h

pub the_open_brace_is : (t : Token) → kind_of t ≡ 85 → (p : Place) × (t ≡ sign p (codes "{"))
the_open_brace_is t h = operator_is t 38 (omega arith) h

pub the_close_brace_is : (t : Token) → kind_of t ≡ 86 → (p : Place) × (t ≡ sign p (codes "}"))
the_close_brace_is t h = operator_is t 39 (omega arith) h

pub the_comma_is : (t : Token) → kind_of t ≡ 87 → (p : Place) × (t ≡ sign p (codes ","))
the_comma_is t h = operator_is t 40 (omega arith) h

pub the_colon_is : (t : Token) → kind_of t ≡ 88 → (p : Place) × (t ≡ sign p (codes ":"))
the_colon_is t h = operator_is t 41 (omega arith) h

pub the_dot_is : (t : Token) → kind_of t ≡ 89 → (p : Place) × (t ≡ sign p (codes "."))
the_dot_is t h = operator_is t 42 (omega arith) h

pub the_semicolon_is : (t : Token) → kind_of t ≡ 90 → (p : Place) × (t ≡ sign p (codes ";"))
the_semicolon_is t h = operator_is t 43 (omega arith) h

pub the_equal_is : (t : Token) → kind_of t ≡ 91 → (p : Place) × (t ≡ sign p (codes "="))
the_equal_is t h = operator_is t 44 (omega arith) h
