-- Where a reader ends, and what it makes.
use Rattle.std.specs.Prelude.{◌≡◌, List, [], ◌++◌, Bool, true, false, ℕ, ◌+◌, ◌≤◌, length, drop}
use Rattle.rules.specs.Reader.{stop}
use Rattle.rules.specs.Bytes.{underscored}
use Rattle.rules.specs.Sheet.{Lookup, text_of}
use Rattle.rules.specs.Strings.{literal, plus, expression_round, expression}
use Rattle.scan.specs.Sets.{part}
use Rattle.scan.specs.declared.read.Read.{Read}
use Rattle.string_ends.specs.declared.RoundStart.{RoundStart}
use Rattle.string_ends.specs.declared.RoundStart.TheVariants.{Literal, Reference, Nothing}

-- r: what a reader made of t, and its rest. It ends behind k bytes.
pub record Ends (r : List ℕ × List ℕ) (t : List ℕ) (k : ℕ) : Type 0 where
  pub inside : k ≤ length t
  pub rest : r.1 ≡ drop k t

-- And its text is taken: before it a, behind it z.
pub record Reads {A : Type 0} (takes : A → List ℕ → A → Type 0) (r : List ℕ × List ℕ) (t : List ℕ) (a : A) (k : ℕ) (z : A) : Type 0 where
  pub ends : Ends r t k
  pub text : takes a r.0 z

-- And its text is v.
pub record Makes (r : List ℕ × List ℕ) (t : List ℕ) (k : ℕ) (v : List ℕ) : Type 0 where
  pub ends : Ends r t k
  pub text : r.0 ≡ v

-- A round of an expression up to its `+`, with the text v. Found: reading goes on behind k bytes; else the round stops there.
pub record IsRound (look : Lookup) (found : Bool) (t : List ℕ) (k : ℕ) (v : List ℕ) : Type 0 where
  pub inside : k ≤ length t
  pub goes : found ≡ true → (u : List ℕ) → expression_round look u t ≡ plus look (u ++ v) (drop k t)
  pub stops : found ≡ false → (u : List ℕ) → expression_round look u t ≡ (stop (u ++ v), drop k t)

-- What a round begins with, and so what it comes to, for every lookup: a literal that begins at i; a reference from i to k; nothing.
unfoldable pub Begins : List ℕ → RoundStart → Type 0
Begins t (Literal i) = (i ≤ length t) × ((look : Lookup) (k : ℕ) → Ends (literal (part t i (length t))) (part t i (length t)) k → IsRound look true t (i + k) (literal (part t i (length t))).0)
Begins t (Reference i k) = (i ≤ k) × (k ≤ length t) × ((look : Lookup) → IsRound look true t k (text_of (look (underscored (part t i k)))))
Begins t (Nothing i) = (look : Lookup) → IsRound look false t i []

-- A round up to its `+`, read for every lookup, and a text taken, which is the round's where references are looked up: before it a, behind it z.
pub record ReadsRound {A : Type 0} (takes : A → List ℕ → A → Type 0) (looks : A → Lookup → Type 0) (t : List ℕ) (r : Read Bool) (a z : A) : Type 0 where
  pub text : Lookup → List ℕ
  pub round : (look : Lookup) → IsRound look r.what t r.used (text look)
  pub took : List ℕ
  pub taken : takes a took z
  pub says : (look : Lookup) → looks a look → text look ≡ took

-- An expression, of which is taken what it comes to where references are looked up. It is read to its end, unless the text behind does not matter any more.
pub record ReadsExpression {A : Type 0} (takes : A → List ℕ → A → Type 0) (looks : A → Lookup → Type 0) (done : A → Type 0) (t : List ℕ) (a : A) (k : ℕ) (z : A) : Type 0 where
  pub ends : (done z → ⊥) → (look : Lookup) → Ends (expression look t) t k
  pub taken : (look : Lookup) → looks a look → takes a (expression look t).0 z
