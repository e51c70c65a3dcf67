-- The text of a language that is looked up.
use Rattle.std.specs.Prelude.{List, ℕ}
use Rattle.rules.specs.Strings.{literal}
use Rattle.raw_arguments.specs.declared.language_text.LangText.{LangText}
use Rattle.raw_arguments.specs.declared.language_text.LangText.TheVariants.{Literal, Plain}

unfoldable pub text_of_lang : LangText → List ℕ
text_of_lang (Literal s) = (literal s.now).0
text_of_lang (Plain s) = s.now
