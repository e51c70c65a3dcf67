-- What the reading and writing functions promise.
use Rattle.std.specs.Prelude.{◌≡◌, List, [], ℕ, Result, Ok}
use Rattle.refusal.specs.declared.Refusal.{Refusal}
use Rattle.scan.specs.declared.read.Read.{Read}
use Rattle.buffers.specs.declared.writer.Writer.{Writer}
use Rattle.buffers.specs.Wrote.{Puts, puts-none}
use Rattle.string_ends.specs.Ends.{Ends}
use Rattle.strings.specs.declared.piece_writer.PieceWriter.{PieceWriter}
use Rattle.strings.specs.Puts.{PutsOn}

-- v: what a reader made of t, and its rest. Where it ends in t is told, and the text is put.
pub record Written (v : List ℕ × List ℕ) (t : List ℕ) (w w₂ : Writer) (r : Read (Result (Unit {0}) Refusal)) : Type 0 where
  pub ends : Ends v t r.used
  pub puts : Puts v.0 w w₂ r.what

-- What a writer has come to that took a text from its start on, when it is let go: w₂.
pub puts-all : {a z : PieceWriter} {v : List ℕ} → PutsOn a v z → a.outcome ≡ Ok tt → {w₂ : Writer} → w₂ ≡ z.to.now → Puts v a.to.now w₂ z.outcome
puts-all {a} p e x = rw x (p.puts [] a.to.now (rw e (puts-none a.to.now tt)))
