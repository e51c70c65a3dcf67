-- A sheet at the start of a lent buffer.
use Rattle.std.specs.Prelude.{◌≡◌, List, ℕ, ◌≤◌, length, take}
use Rattle.std.proofs.Common.{◌∙◌, arith, ap}
use Rattle.std.proofs.lemmas.List.Edits.{sets}
use Rattle.buffers.specs.Laws.{stored-first}
use Rattle.rules.specs.Calls.{limit}
use Rattle.sheet.specs.Records.{KeepsLayout}

-- The sheet z stands in the first n bytes of the buffer m, which was l.
pub record Stored (l m z : List ℕ) (n : ℕ) : Type 0 where
  pub long : length m ≡ length l
  pub size : n ≡ length z
  pub is : take n m ≡ z
  pub layout : KeepsLayout z

-- The first n bytes of the buffer l are a sheet within its limit.
pub record HoldsSheet (l : List ℕ) (n : ℕ) : Type 0 where
  pub layout : KeepsLayout (take n l)
  pub within : n ≤ limit (length l)

-- LAWS.
pub stored-sheet : (l : List ℕ) {o v z : List ℕ} → o ≡ sets l 0 v → v ≡ z → length z ≤ length l → take (length v) o ≡ z
stored-sheet l {v = v} e q h = ap (take (length v)) e ∙ stored-first l v (omega (arith, ap length q)) ∙ q

-- Where a sheet was stored that its buffer may hold, as many bytes of the buffer, k, are one.
pub stored-holds : {l m z : List ℕ} {n k : ℕ} → Stored l m z n → length z ≤ limit (length l) → k ≡ n → HoldsSheet m k
stored-holds S h e = record { layout = rw (e, S.is) S.layout; within = rw (e, S.long, S.size) h }

-- What the sheet's buffer is asked for, of n bytes.
pub sheet-room : (n : ℕ) (l : List ℕ) {L : ℕ} → L ≡ limit (length l) → n ≤ limit (length l) → (n ≤ L) × (L ≤ length l) × (L ≤ 65535)
unfolding limit
sheet-room n l q h = (omega (arith, q, h), omega arith, omega arith)
