-- The code's lexemes as the plain ones.
use Rattle.std.specs.Prelude.{string_bytes}
use Rattle.py_tokens.specs.Token as meaning
use Rattle.py_tokens.specs.Lexeme as meaning_lexeme
use Rattle.py_lexer.specs.PlainTokens.{keyword_text, operator_text}
use Rattle.py_lexer.specs.declared.lexeme.Word.{Word}
use Rattle.py_lexer.specs.declared.lexeme.Word.TheVariants as word
use Rattle.py_lexer.specs.declared.lexeme.Fault.{Fault}
use Rattle.py_lexer.specs.declared.lexeme.Fault.TheVariants as fault
use Rattle.py_lexer.specs.declared.lexeme.Lexeme.{Lexeme}
use Rattle.py_lexer.specs.declared.lexeme.Lexeme.TheVariants as lexeme
use Rattle.py_lexer.specs.declared.lexeme.Front.{Front}

abbrev pub plain_word : Word → meaning.Kind
plain_word (word.Name name) = meaning.TName (string_bytes name)
plain_word (word.Keyword k) = meaning.TKeyword (keyword_text k)
plain_word (word.Operator o) = meaning.TOperator (operator_text o)
plain_word (word.Number value) = meaning.TNumber value
plain_word (word.Text text) = meaning.TText text
plain_word word.Float = meaning.TFloat
plain_word word.Imaginary = meaning.TImaginary
plain_word word.Bytes = meaning.TBytes
plain_word word.Formatted = meaning.TFormatted

abbrev pub plain_fault : Fault → meaning.Refusal
plain_fault fault.BadCharacter = meaning.BadCharacter
plain_fault fault.UnclosedText = meaning.UnclosedText
plain_fault fault.BadEscape = meaning.BadEscape
plain_fault fault.WideNumber = meaning.WideNumber
plain_fault fault.NonAsciiText = meaning.NonAsciiText
plain_fault fault.NotNormal = meaning.NotNormal
plain_fault fault.TooLong = meaning.TooLong

abbrev pub plain_lexeme : Lexeme → meaning_lexeme.Lexeme
plain_lexeme (lexeme.Blank c) = meaning_lexeme.Blank c
plain_lexeme lexeme.Nothing = meaning_lexeme.Nothing
plain_lexeme lexeme.LineEnd = meaning_lexeme.LineEnd
plain_lexeme (lexeme.Word w) = meaning_lexeme.Word (plain_word w)
plain_lexeme (lexeme.Broken f before) = meaning_lexeme.Broken (plain_fault f) before

abbrev pub plain_front : Front → meaning_lexeme.Front
plain_front f = record { length_of = f.length; lexeme = plain_lexeme f.lexeme }
