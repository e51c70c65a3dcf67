-- What `manual` writes lies in its buffer, by the law `manual-holds`.
use Rattle.std.proofs.Common.{◌≡◌, ℕ, ◌≤◌, List, length, arith, sym, length-take-le}
use Rattle.rules.specs.Manual.{manual_of}
use Rattle.rules.proofs.Laws.Manual.{manual-holds}
use Rattle.manual.proofs.main.Goals as goal

inside : (b : List ℕ) {n : ℕ} {o : List ℕ} → manual_of b ≡ record { len = n; out = o } → n ≤ length o
inside b e = let h = rw e at (manual-holds b) in omega (arith, h.size, h.fits)

pub slice_bounds-out-end : goal.slice_bounds-out-end
slice_bounds-out-end c = inside _ c.manual-len.ensures

pub slice_bounds-write_all-end : goal.slice_bounds-write_all-end
slice_bounds-write_all-end c = sym (length-take-le _ _ (inside _ c.manual-len.ensures))
