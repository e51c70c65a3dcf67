-- A text that is measured piece by piece.
use Rattle.std.specs.Prelude.{Some, ◌≡◌, refl, List, [], ◌++◌, ℕ, length}
use Rattle.std.proofs.Common.{sym, ap, ◌∙◌, length-append}
use Rattle.rules.specs.Bytes.{trim_end}
use Rattle.string_ends.specs.Ends.{Ends}
use Rattle.calls.specs.declared.measure.Meter.{Meter}
use Rattle.calls.specs.Measure.{behind, kept_behind, MeasuresRead, behind-start, behind-none, behind-more, kept_append, kept-start}

-- A meter at the start of a text.
pub record meter_start (n : ℕ) (m : Meter) : Type 0 where
  pub room : m.room ≡ n
  pub len : m.size.len ≡ Some 0
  pub kept : m.size.kept ≡ Some 0

-- The text v is measured by a, which is then b.
pub record Meters (a : Meter) (v : List ℕ) (b : Meter) : Type 0 where
  pub room : b.room ≡ a.room
  pub len : b.size.len ≡ behind a.room a.size.len (length v)
  pub kept : b.size.kept ≡ kept_behind a.room a.size.len a.size.kept v

-- LAWS.
pub meters-none : (a : Meter) → Meters a [] a
unfolding kept_behind trim_end
meters-none a = record { room = refl; len = sym (behind-none a.room a.size.len a.inside); kept = refl }

pub meters-more : {a b c : Meter} {v w : List ℕ} → Meters a v b → Meters b w c → Meters a (v ++ w) c
meters-more {a} {b} {c} {v} {w} p q = record {
  room = q.room ∙ p.room;
  len = q.len ∙ rw (p.room, p.len) (behind-more a.room a.size.len (length v) (length w)) ∙ ap (behind a.room a.size.len) (sym (length-append v w));
  kept = q.kept ∙ rw (p.room, p.len, p.kept) (kept_append a.room a.size.len a.size.kept v w);
}

pub measures-read : {room : ℕ} {a z : Meter} → meter_start room a → {v : List ℕ × List ℕ} {t : List ℕ} {k : ℕ} → Ends v t k → Meters a v.0 z → MeasuresRead room v t (record { what = z.size; used = k })
measures-read {room} s {v} e m = record {
  ends = e;
  size = record {
    len = behind-start room (length v.0) (rw (s.room, s.len) at m.len);
    kept = behind-start room (length (trim_end v.0)) ((rw (s.room, s.len, s.kept) at m.kept) ∙ kept-start room v.0);
  };
}
