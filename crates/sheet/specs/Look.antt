-- Lookup of a path with dots.
use Rattle.std.specs.Prelude.{◌≡◌, Bool, true, false, List, [], ◌∷◌, ◌++◌, ℕ, zero, suc, ◌+◌, ◌≤◌, ◌<◌, length, drop, get_or}
use Rattle.std.proofs.Math.Path.{refl, subst}
use Rattle.std.proofs.Common.{sym, ap, ◌∙◌, append-nil, add-one, arith, drop_of_length-le, drop-cons}
use Rattle.std.proofs.lemmas.Bool.{false≢true}
use Rattle.std.proofs.Math.Option.{Option, none, some}
use Rattle.rules.specs.Reader.{all, but, the}
use Rattle.rules.specs.Bytes.{word, name_byte, split, prepend}
use Rattle.rules.specs.Layout.{bind}
use Rattle.rules.specs.Sheet.{Value, text, nothing, dictionary, Records, good_records, good_value, get, get_fields, get_pieces, resolve}
use Rattle.rules.proofs.Laws.Bool.{and_l, and_r}
use Rattle.rules.proofs.Laws.Sheet.{get-good}
use Rattle.scan.specs.Sets.{Spans, part}
use Rattle.scan.specs.Laws.{but-yes, but-no}
use Rattle.scan.specs.Stretches.{span-took, spans-stop}
use Rattle.sheet.specs.Parts.{slice-part, part-all}
use Rattle.sheet.specs.Records.{KeepsLayout, records_of, records-good}
use Rattle.sheet.specs.Name.{spelled, asked, asked-length, asked-get, asked-dot, asked-dots}
use Rattle.sheet.specs.declared.Name.{Name}
use Rattle.sheet.specs.Find.{Tells, Gives, Level}
use Rattle.std.specs.Prelude.{Option as RustOption, Some, None}
use Rattle.scan.specs.declared.Range.{Range}
use Rattle.sheet.specs.declared.lookup.Found.{Found}
use Rattle.sheet.specs.declared.lookup.Found.TheVariants.{Nothing, Text, Dictionary}

-- From p up to q there is no `.`, and at q there is one or the end.
pub record UpToDot (t : List ℕ) (p q : ℕ) : Type 0 where
  pub on : p ≤ q
  pub inside : q ≤ length t
  pub none : all (but ".") (part t p q) ≡ true
  pub at : q < length t → but "." (get_or t q 0) ≡ false

-- What `span` answers in a name's text, said of the name as it is asked for.
pub dot_spans : {t : List ℕ} {p q : ℕ} → Spans (but ".") t p q → UpToDot t p q
dot_spans {t} {p} {q} s = record {
  on = s.on;
  inside = s.inside;
  none = rw s.took at (span-took (but ".") (drop p t));
  at = λ l. spans-stop s l;
}

pub asked-to : (n : Name) {t : List ℕ} → t ≡ spelled n → {p q : ℕ} → Spans (but ".") t p q → UpToDot (asked n) p q
asked-to n e {p} {q} s =
    let d : UpToDot (spelled n) p q = rw e at (dot_spans s) in
    record {
      on = d.on;
      inside = omega (arith, d.inside, asked-length n);
      none = asked-dots n p q ∙ d.none;
      at = λ l. let h : q < length (spelled n) = omega (arith, asked-length n) in rw (asked-get n q h) (asked-dot n (get_or (spelled n) q 0) ∙ d.at h);
    }

-- PIECES.
split_dot : (a b : List ℕ) (x : ℕ) → all (but ".") a ≡ true → but "." x ≡ false → split "." (a ++ (x ∷ b)) ≡ a ∷ split "." b
unfolding all split prepend
split_dot [] b x h e = rw (but-no "." x e, split) refl
split_dot (y ∷ a) b x h e =
    rw (but-yes "." y (and_l (but "." y) (all (but ".") a) h), split) (rw (split_dot a b x (and_r (but "." y) (all (but ".") a) h) e) refl)

split-last : (a : List ℕ) → all (but ".") a ≡ true → split "." a ≡ a ∷ []
unfolding all split prepend
split-last [] h = refl
split-last (y ∷ a) h = rw (but-yes "." y (and_l (but "." y) (all (but ".") a) h), split) (rw (split-last a (and_r (but "." y) (all (but ".") a) h)) refl)

module _ {t : List ℕ} {p q : ℕ} (d : UpToDot t p q) where
  rest-is : drop p t ≡ part t p q ++ drop q t
  rest-is = (slice-part t p q d.on d.inside).bytes

  pub pieces-last : length t ≤ q → split "." (drop p t) ≡ part t p q ∷ []
  pieces-last h =
      let e : drop p t ≡ part t p q = rest-is ∙ rw (drop_of_length-le t h) (append-nil (part t p q)) in
      ap (split ".") e ∙ split-last (part t p q) d.none

  pub pieces_dot : q < length t → split "." (drop p t) ≡ part t p q ∷ split "." (drop (q + 1) t)
  pieces_dot h = ap (split ".") (rest-is ∙ rw (add-one, drop-cons t q 0) refl) ∙ split_dot (part t p q) (drop (q + 1) t) (get_or t q 0) d.none (d.at h)

-- A list that is not empty.
pub record Full (ks : List (List ℕ)) : Type 0 where
  pub k : List ℕ
  pub rest : List (List ℕ)
  pub is : ks ≡ k ∷ rest

prepend-full : (x : ℕ) (ks : List (List ℕ)) → Full (prepend x ks)
unfolding prepend
prepend-full x [] = record { k = x ∷ []; rest = []; is = refl }
prepend-full x (k ∷ ks) = record { k = x ∷ k; rest = ks; is = refl }

split-full-at : (x : ℕ) (u : List ℕ) (c : Bool) → the "." x ≡ c → Full (split "." (x ∷ u))
unfolding split
split-full-at x u true e = rw (e, split) (record { k = []; rest = split "." u; is = refl })
split-full-at x u false e = rw (e, split) (prepend-full x (split "." u))

split-full : (u : List ℕ) → Full (split "." u)
unfolding split
split-full [] = record { k = []; rest = []; is = refl }
split-full (x ∷ u) = split-full-at x u (the "." x) refl

bind_fields : (x : Option Value) → bind x (get_fields []) ≡ x
unfolding bind get_fields
bind_fields none = refl
bind_fields (some v) = refl

pieces-one : (r : Records) (k : List ℕ) → get_pieces r (k ∷ []) ≡ get r k
unfolding get_pieces
pieces-one r k = bind_fields (get r k)

module _ (ks : List (List ℕ)) (f : Full ks) (r : Records) (k : List ℕ) where
  fields_of : (v : Value) → get r k ≡ some v → get_pieces r (k ∷ ks) ≡ get_fields ks v
  unfolding get_pieces bind
  fields_of v h = rw h refl

  pieces-dictionary : (d : Records) → get r k ≡ some (dictionary d) → get_pieces r (k ∷ ks) ≡ get_pieces d ks
  unfolding get_fields get_pieces
  pieces-dictionary d h = fields_of (dictionary d) h ∙ rw f.is refl

  pieces-text : (t : List ℕ) → get r k ≡ some (text t) → get_pieces r (k ∷ ks) ≡ none
  unfolding get_fields
  pieces-text t h = fields_of (text t) h ∙ rw f.is refl

  pieces_none : get r k ≡ some nothing → get_pieces r (k ∷ ks) ≡ none
  unfolding get_fields
  pieces_none h = fields_of nothing h ∙ rw f.is refl

  pieces-missing : get r k ≡ none → get_pieces r (k ∷ ks) ≡ none
  unfolding get_pieces bind
  pieces-missing h = rw h refl

-- The level from `at` to e is where the rest of the path t from p is looked up.
pub record Walking (s : List ℕ) (at e p : ℕ) (r : Records) (t : List ℕ) : Type 0 where
  pub level : Level s at e
  pub same : resolve r t ≡ get_pieces level.r (split "." (drop p t))

pub walk_start : {s : List ℕ} (t : List ℕ) → KeepsLayout s → Walking s 0 (length s) 0 (records_of s) t
unfolding resolve
walk_start {s} t k = record {
  level = record { r = records_of s; p = word; l = 6; part = part-all k.written; good = records-good s };
  same = refl;
}

dictionary-good : (d : Records) (l : ℕ) → good_value (dictionary d) l ≡ true → (m : ℕ) × (good_records d name_byte m ≡ true)
unfolding good_value
dictionary-good d zero h = absurd (false≢true h)
dictionary-good d (suc m) h = (m, h)

-- What is found under the piece from p to q.
module _ {s : List ℕ} {at e p q : ℕ} {r : Records} {t : List ℕ} (w : Walking s at e p r t) (u : UpToDot t p q) where
  pub walk-last : (f : RustOption Found) → length t ≤ q → Gives s (get w.level.r (part t p q)) f → Gives s (resolve r t) f
  walk-last f h g =
      let i : resolve r t ≡ get w.level.r (part t p q) = w.same ∙ ap (get_pieces w.level.r) (pieces-last u h) ∙ pieces-one w.level.r (part t p q) in
      subst (λ z. Gives s z f) (sym i) g

  module _ (h : q < length t) where
    more : resolve r t ≡ get_pieces w.level.r (part t p q ∷ split "." (drop (q + 1) t))
    more = w.same ∙ ap (get_pieces w.level.r) (pieces_dot u h)

    pub walk-missing : Gives s (get w.level.r (part t p q)) None → Gives s (resolve r t) None
    unfolding Gives
    walk-missing g = more ∙ pieces-missing _ (split-full (drop (q + 1) t)) w.level.r (part t p q) g

    module _ (f : Found) (g : Gives s (get w.level.r (part t p q)) (Some f)) where
      pub walk-stop : ((a : Range) (n : ℕ) → f ≡ Dictionary a n → ⊥) → Gives s (resolve r t) None
      unfolding Tells Gives
      walk-stop y = go f g.2 y
        where
          go : (f : Found) → Tells s g.0 f → ((a : Range) (n : ℕ) → f ≡ Dictionary a n → ⊥) → Gives s (resolve r t) None
          go Nothing x z = more ∙ pieces_none _ (split-full (drop (q + 1) t)) w.level.r (part t p q) (g.1 ∙ ap some x)
          go (Text a) x z = more ∙ pieces-text _ (split-full (drop (q + 1) t)) w.level.r (part t p q) x.0 (g.1 ∙ ap some x.1)
          go (Dictionary a n) x z = absurd (z a n refl)

      pub walk-on : {a : Range} {n : ℕ} → f ≡ Dictionary a n → Walking s a.from a.to (q + 1) r t
      unfolding Tells Gives
      walk-on {a} {n} y =
          let x : Tells s g.0 (Dictionary a n) = rw y at g.2 in
          let h : get w.level.r (part t p q) ≡ some (dictionary x.0) = g.1 ∙ ap some x.1 in
          let o = dictionary-good x.0 w.level.l (get-good w.level.r w.level.p w.level.l (part t p q) (dictionary x.0) w.level.good h) in
          record {
            level = record { r = x.0; p = name_byte; l = o.0; part = x.2; good = o.1 };
            same = more ∙ pieces-dictionary _ (split-full (drop (q + 1) t)) w.level.r (part t p q) x.0 h;
          }
