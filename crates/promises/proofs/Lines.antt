-- The nine starred lines of 01, section 10, by computation: one checked list, over the calls' own answers.
use Rattle.std.specs.Prelude.{◌≡◌, refl, List, [], ◌∷◌, Bool, false, ℕ, ◌/◌, ◌%◌, length, take}
use Rattle.std.proofs.Math.Option.{Option, some}
use Rattle.rules.specs.Reader.{bytes}
use Rattle.rules.specs.Sheet.{text, nothing, dictionary, Records, end, rec, encode, sheet_of}
use Rattle.rules.specs.Calls.{Setting, pass_of, resolve_includes_of, parse_definitions_of}
use Rattle.rules.specs.Compute.{rules}

-- The sheet x = `10`; a bundle with no file; a bundle with one file, whose name is one byte.
unfoldable pub x-is_10 : List ℕ
x-is_10 = encode (rec (bytes "x") (text (bytes "10")) end)

unfoldable pub no_file : List ℕ
no_file = 0 ∷ 0 ∷ []

unfoldable pub one_file : ℕ → List ℕ → List ℕ
one_file name content = 1 ∷ 0 ∷ 6 ∷ 1 ∷ name ∷ length content % 256 ∷ length content / 256 ∷ content

-- A pass over t, no file, each buffer of 64 bytes: its number, what it wrote, whether it says closed.
abbrev setting : Setting
setting = record { bundle = no_file; folder = []; middle_len = 64; out_len = 64; left_len = 64 }

unfoldable pub document : List ℕ → ℕ × List ℕ × Bool
document t = let r = pass_of setting x-is_10 t in (r.number, take r.len r.out, r.closed)

-- The include call over t, b holding `B`: its number, what it wrote.
unfoldable pub with_includes : List ℕ → ℕ × List ℕ
with_includes t = let r = resolve_includes_of (one_file 98 (bytes "B")) [] t 64 in (r.number, take r.len r.out)

-- The definitions call over a file c: its number, the sheet that it left.
unfoldable pub defined : List ℕ → ℕ × Option Records
defined c = let r = parse_definitions_of (one_file 102 c) (bytes "f") 64 1024 in (r.number, sheet_of (take r.sheet_len r.left))

pub lines :
    (document (bytes "A #x. B") ≡ (0, bytes "A  B", false))
    × (document (bytes "#letter = x\n#ter") ≡ (0, bytes "10", false))
    × (document (bytes "#let y = \"q\"\n#y") ≡ (0, bytes "\"q\"", false))
    × (document (bytes "#raw(x, lang: \"r\", block: true)") ≡ (0, bytes "```r\n10\n```\n", false))
    × (document (bytes "#raw(\"a\", theme: \"b\")") ≡ (8, [], false))
    × (document (bytes "#raw(\"a\"\n") ≡ (0, bytes "`a`", false))
    × (with_includes (bytes "// #include \"a\" #include \"b\"") ≡ (0, bytes "// #include \"a\" B\n"))
    × (defined (bytes "#let d = (a:)\nb: \"1\")") ≡ (0, some (rec (bytes "d") (dictionary (rec (bytes "a") nothing (rec (bytes "b") (text (bytes "1")) end))) end)))
    × (defined (bytes "#let d = (a: nonesuch, b: \"1\")\n)") ≡ (0, some (rec (bytes "d") (dictionary (rec (bytes "a") nothing (rec (bytes "such") nothing end))) end)))
unfolding rules x-is_10 no_file one_file document with_includes defined
lines = (refl, refl, refl, refl, refl, refl, refl, refl, refl)
