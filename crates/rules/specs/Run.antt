-- Steps and runs: a text is worked through from left to right, one step at a time (sections 4 to 8 are made of these).
-- A run knows no limit; `limited` puts the limits of section 8 to what it does, in reading order.
use Rattle.std.specs.Prelude.{Bool, true, false, ◌&&◌, List, [], ◌∷◌, ◌++◌, ℕ, zero, suc, ◌-◌, leb, eqb, length}
use Rattle.rules.specs.Answer.{Answer, refused, accepted, ◌>>=◌, ◌>>◌, check}
use Rattle.rules.specs.Reader.{Reader}

-- What a step writes: pieces in order, perhaps cut off by a refusal.
pub data Emit : Type 0 where
  ok : Emit
  put : List ℕ → Emit → Emit
  fail : ℕ → Emit

-- One after the other.
unfoldable pub and_then : Emit → Emit → Emit
and_then ok f = f
and_then (put o e) f = put o (and_then e f)
and_then (fail k) f = fail k

-- Nothing refused.
unfoldable pub unrefused : Emit → Bool
unrefused ok = true
unrefused (put o e) = unrefused e
unrefused (fail k) = false

-- All that is written.
unfoldable pub pieces : Emit → List ℕ
pieces ok = []
pieces (put o e) = o ++ pieces e
pieces (fail k) = []

-- What a step does: is it whole (the end of the text decided nothing that section 6 asks about), what it writes, the state after it.
pub record Did (S : Type 0) : Type 0 where
  pub whole : Bool
  pub emit : Emit
  pub state : S

-- A step reads from its place to where the next one begins.
abbrev pub Step : Type 0 → Type 0
Step S = S → Reader (Did S)

-- All that a run does.
pub data Trace (S : Type 0) : Type 0 where
  fin : S → Trace S
  step : Did S → Trace S → Trace S

-- Empty, or ending in newline.
unfoldable pub ends_in_newline : List ℕ → Bool
ends_in_newline [] = true
ends_in_newline (x ∷ []) = eqb x 10
ends_in_newline (x ∷ y ∷ ys) = ends_in_newline (y ∷ ys)

module _ {S : Type 0} where
  -- The run over a text, of which the first k bytes belong to the step just made.
  unfoldable pub run : Step S → S → ℕ → List ℕ → Trace S
  run f s k [] = fin s
  run f s (suc k) (x ∷ xs) = run f s k xs
  run f s zero (x ∷ xs) =
      let r = f s (x ∷ xs) in
      step r.0 (run f r.0.state (length xs - length r.1) xs)

  -- Nothing refused, and every step whole.
  unfoldable pub all_whole : Trace S → Bool
  all_whole (fin s) = true
  all_whole (step d t) = d.whole && unrefused d.emit && all_whole t

  -- All that a run writes: in order, as bytes, and the state that it leaves.
  unfoldable pub emitted : Trace S → Emit
  emitted (fin s) = ok
  emitted (step d t) = and_then d.emit (emitted t)

  unfoldable pub written : Trace S → List ℕ
  written (fin s) = []
  written (step d t) = pieces d.emit ++ written t

  unfoldable pub final : Trace S → S
  final (fin s) = s
  final (step d t) = final t

-- The pieces into r bytes of room; the first that does not fit is refusal `full`. A refused call leaves no output, so refusing the
-- whole piece is refusing at its first byte too many.
unfoldable pub write : ℕ → ℕ → Emit → Answer (List ℕ)
write full r ok = accepted []
write full r (put o e) = do
  check full (leb (length o) r)
  p ← write full (r - length o) e
  accepted (o ++ p)
write full r (fail k) = refused k

-- The run with its limits: a state of at most L bytes (refusal 9), and r bytes of room for what is written (refusal `full`).
-- No step both binds and writes, and an unchanged state was measured before: 9 is met exactly at the binding.
module _ {S : Type 0} (size : S → ℕ) (L full : ℕ) where
  unfoldable pub limited : ℕ → Trace S → Answer (List ℕ × S)
  limited r (fin s) = accepted ([], s)
  limited r (step d t) = do
    check 9 (leb (size d.state) L)
    o ← write full r d.emit
    p ← limited (r - length o) t
    accepted (o ++ p.0, p.1)
