-- A text that is put piece by piece.
use Rattle.std.specs.Prelude.{◌≡◌, refl, List, [], ◌++◌, ℕ, Result, Ok, Err, true, false, is_ok}
use Rattle.std.proofs.Common.{sym, ◌∙◌, true≢false, append-nil, append_assoc}
use Rattle.refusal.specs.declared.Refusal.{Refusal}
use Rattle.buffers.specs.declared.writer.Writer.{Writer}
use Rattle.buffers.specs.Wrote.{Puts, puts-then, puts-no}
use Rattle.strings.specs.declared.piece_writer.PieceWriter.{PieceWriter}

-- The text v is put by a, which is then b, over the same writer: where u has been put, u and v have then been put.
pub record PutsOn (a : PieceWriter) (v : List ℕ) (b : PieceWriter) : Type 0 where
  pub same : b.to.ghost_name ≡ a.to.ghost_name
  pub puts : (u : List ℕ) (w : Writer) → Puts u w a.to.now a.outcome → Puts (u ++ v) w b.to.now b.outcome

pub on-none : (a : PieceWriter) → PutsOn a [] a
on-none a = record { same = refl; puts = λ u w s. rw append-nil s }

pub on-more : {a b c : PieceWriter} {v w : List ℕ} → PutsOn a v b → PutsOn b w c → PutsOn a (v ++ w) c
on-more {v = v} {w} p q = record { same = q.same ∙ p.same; puts = λ u x s. rw (sym (append_assoc u v w)) (q.puts (u ++ v) x (p.puts u x s)) }

-- A piece, by whether there was room for all before it.
module _ {a b : PieceWriter} (v : List ℕ) where
  pub on-room : is_ok a.outcome ≡ true → b.to.ghost_name ≡ a.to.ghost_name → Puts v a.to.now b.to.now b.outcome → PutsOn a v b
  on-room h n t = record { same = n; puts = λ u w s. at a.outcome refl h s }
    where
      at : {u : List ℕ} {w : Writer} (q : Result (Unit {0}) Refusal) → a.outcome ≡ q → is_ok q ≡ true → Puts u w a.to.now a.outcome → Puts (u ++ v) w b.to.now b.outcome
      at (Ok x) e h s = puts-then s e t
      at (Err k) e h s = absurd (true≢false (sym h))

pub on-past : (a : PieceWriter) (v : List ℕ) → is_ok a.outcome ≡ false → PutsOn a v a
on-past a v h = record { same = refl; puts = λ u w s. at a.outcome refl h s }
  where
    at : {u : List ℕ} {w : Writer} (q : Result (Unit {0}) Refusal) → a.outcome ≡ q → is_ok q ≡ false → Puts u w a.to.now a.outcome → Puts (u ++ v) w a.to.now a.outcome
    at (Ok x) e h s = absurd (true≢false h)
    at (Err k) e h s = puts-no s e v e
