-- A sheet's records and its bytes (01, section 2): the round trip both ways. What binding a name changes, and what not.
use Rattle.std.specs.Prelude.{◌≡◌, List, true, false, ℕ, ◌≤◌, length}
use Rattle.std.proofs.Math.Option.{some}
use Rattle.rules.specs.Reader.{all, same}
use Rattle.rules.specs.Bytes.{is_byte, word}
use Rattle.rules.specs.Sheet.{Value, Records, encode, good_records, sheet_of, get, set}
use Rattle.rules.proofs.Laws.Sheet.{sheet-encode, sheet_canonical, get_set, get_set_other}

-- Records that keep the layout, at most 65,535 bytes of them, are read back from their bytes.
pub read_back : (s : Records) → good_records s word 6 ≡ true → length (encode s) ≤ 65535 → sheet_of (encode s) ≡ some s
unfolding Rattle.rules.specs.Sheet.sheet_length
read_back s g l = sheet-encode s g l

-- Bytes that keep the layout are written back: a sheet has one form only.
pub written_back : (b : List ℕ) (s : Records) → all is_byte b ≡ true → sheet_of b ≡ some s → encode s ≡ b
written_back b s a h = sheet_canonical b s a h

-- A name that is bound has the value that it was bound to; any other name has the value that it had.
pub bound : (s : Records) (name : List ℕ) (v : Value) → get (set s name v) name ≡ some v
bound s name v = get_set s name v

pub others_kept : (s : Records) (name other : List ℕ) (v : Value) → same name other ≡ false → get (set s name v) other ≡ get s other
others_kept s name other v h = get_set_other s name other v h
