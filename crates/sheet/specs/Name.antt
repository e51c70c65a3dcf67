-- A name as it is asked for.
use Rattle.std.specs.Prelude.{◌≡◌, Bool, true, false, List, [], ◌∷◌, ℕ, ◌<◌, length, map, get_or}
use Rattle.std.proofs.Math.Path.{refl}
use Rattle.std.proofs.Common.{sym, ap, ◌∙◌}
use Rattle.std.proofs.lemmas.List.{length-map, take-map, drop-map, get_or-map, map-id}
use Prim.Native.Char.{code}
use borrow.Author.Tests.{eqb-true}
use Rattle.scan.specs.Sets.{part}
use Rattle.rules.specs.Reader.{the, but, all}
use Rattle.rules.specs.Bytes.{underscored}
use Rattle.sheet.specs.declared.Name.{Name}
use Rattle.sheet.specs.declared.Name.TheVariants.{Plain, Reference}

-- As it stands.
abbrev pub spelled : Name → List ℕ
spelled (Plain t) = t.now
spelled (Reference t) = t.now

-- As it is asked for; and a byte of it.
abbrev pub asked : Name → List ℕ
asked (Plain t) = t.now
asked (Reference t) = underscored t.now

abbrev pub asked_byte : Name → ℕ → ℕ
asked_byte (Plain t) x = x
asked_byte (Reference t) x = elim (the "-" x) [ true ↦ code "_" | false ↦ x ]

-- LAWS. It is asked for byte by byte.
asked-is : (n : Name) → asked n ≡ map (asked_byte n) (spelled n)
unfolding underscored
asked-is (Plain t) = sym (map-id t.now)
asked-is (Reference t) = refl

pub asked-length : (n : Name) → length (asked n) ≡ length (spelled n)
asked-length n = ap length (asked-is n) ∙ length-map (spelled n) (asked_byte n)

pub asked-get : (n : Name) (i : ℕ) → i < length (spelled n) → get_or (asked n) i 0 ≡ asked_byte n (get_or (spelled n) i 0)
asked-get n i h = ap (λ z. get_or z i 0) (asked-is n) ∙ get_or-map (asked_byte n) (spelled n) i 0 0 h

-- Of its text t: how long it is, and its next byte.
module _ (n : Name) {t : List ℕ} (e : t ≡ spelled n) where
  pub asked-long : length t ≡ length (asked n)
  asked-long = ap length e ∙ sym (asked-length n)

  pub asked-next : {i x y : ℕ} → i < length t → x ≡ get_or t i 0 → y ≡ asked_byte n x → y ≡ get_or (asked n) i 0
  asked-next {i} h p q = q ∙ ap (asked_byte n) (p ∙ ap (λ z. get_or z i 0) e) ∙ sym (asked-get n i (rw e at h))

pub underscored-part : (p q : ℕ) (t : List ℕ) → underscored (part t p q) ≡ part (underscored t) p q
unfolding underscored
underscored-part p q t = rw (drop-map, take-map) refl

-- A `.` stays, and nothing else is made one.
dash-dot : (x : ℕ) (c : Bool) → the "-" x ≡ c → but "." (elim c [ true ↦ code "_" | false ↦ x ]) ≡ but "." x
unfolding but the
dash-dot x true e = let z : x ≡ 45 = eqb-true x 45 e in rw z refl
dash-dot x false e = refl

pub asked-dot : (n : Name) (x : ℕ) → but "." (asked_byte n x) ≡ but "." x
asked-dot (Plain t) x = refl
asked-dot (Reference t) x = dash-dot x (the "-" x) refl

all-same : (p : ℕ → Bool) (f : ℕ → ℕ) → ((x : ℕ) → p (f x) ≡ p x) → (t : List ℕ) → all p (map f t) ≡ all p t
unfolding all
all-same p f h [] = refl
all-same p f h (x ∷ t) = rw (h x, all-same p f h t) refl

pub asked-dots : (n : Name) (p q : ℕ) → all (but ".") (part (asked n) p q) ≡ all (but ".") (part (spelled n) p q)
asked-dots n p q = rw (asked-is n, drop-map, take-map) (all-same (but ".") (asked_byte n) (asked-dot n) (part (spelled n) p q))
