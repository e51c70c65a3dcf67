-- Bytes are those of no second records.
use Rattle.std.specs.Prelude.{◌≡◌, refl, List, [], ◌++◌, ℕ, zero, suc, ◌≤◌, ◌<◌, length}
use Rattle.std.proofs.Common.{sym, ap, ◌∙◌, append-nil, arith, length-append}
use Rattle.rules.specs.Sheet.{Value, text, nothing, dictionary, Records, end, rec, count, value_bytes, encode}
use Rattle.sheet.specs.Heads.{shape_count, head}
use Rattle.sheet.specs.Items.{lead, inner, join, encode-join, count-inner, heads_same, head-back}

rec_same : {n m : List ℕ} {v w : Value} {q r : Records} → n ≡ m → v ≡ w → q ≡ r → rec n v q ≡ rec m w r
rec_same e f g = cc

-- Records one behind the other, parted by how many the first are.
join-same : (a b q r : Records) → count a ≡ count b → join a q ≡ join b r → (a ≡ b) × (q ≡ r)
unfolding count join
join-same end end q r h e = (refl, e)
join-same end (rec m w b) q r h e = absurd (omega arith)
join-same (rec n v a) end q r h e = absurd (omega arith)
join-same (rec n v a) (rec m w b) q r h e =
    let i = rest_same e in
    let k = join-same a b q r (omega arith) i.2 in
    (rec_same i.0 i.1 k.0, k.1)
  where
    rest_same : {n m : List ℕ} {v w : Value} {q r : Records} → rec n v q ≡ rec m w r → (n ≡ m) × (v ≡ w) × (q ≡ r)
    rest_same h = (cc, cc, cc)

value-same : (v w : Value) → lead v ≡ lead w → inner v ≡ inner w → v ≡ w
unfolding lead inner
value-same (text t) (text u) e f = let g : t ≡ u = cc in cc
value-same (text t) nothing e f = cc
value-same (text t) (dictionary s) e f = cc
value-same nothing (text u) e f = cc
value-same nothing nothing e f = refl
value-same nothing (dictionary s) e f = cc
value-same (dictionary r) (text u) e f = cc
value-same (dictionary r) nothing e f = cc
value-same (dictionary r) (dictionary s) e f = cc

-- What a record holds and those behind it are shorter than all of them.
inner-short : (v : Value) → length (encode (inner v)) ≤ length (value_bytes v)
unfolding inner value_bytes encode
inner-short (text t) = omega arith
inner-short nothing = omega arith
inner-short (dictionary r) = simp length-append (omega arith)

held-short : (n : List ℕ) (v : Value) (q : Records) → length (encode (join (inner v) q)) < length (encode (rec n v q))
unfolding encode
held-short n v q = rw encode-join (simp length-append (omega (arith, inner-short v)))

same-within : (k : ℕ) (q r : Records) → length (encode q) < k → encode q ≡ encode r → q ≡ r
same-within zero q r h e = absurd (omega arith)
same-within (suc k) end end h e = refl
same-within (suc k) end (rec m w r) h e = absurd (unfold encode in omega (arith, ap length e))
same-within (suc k) (rec n v q) end h e = absurd (unfold encode in omega (arith, ap length e))
same-within (suc k) (rec n v q) (rec m w r) h e =
    let i = heads_same n m (lead v) (lead w) _ _ (sym (head-back n v q []) ∙ ap (λ z. head (z ++ [])) e ∙ head-back m w r []) in
    let t : encode (join (inner v) q) ≡ encode (join (inner w) r) = sym (append-nil _) ∙ i.2 ∙ append-nil _ in
    let j = same-within k (join (inner v) q) (join (inner w) r) (omega (arith, held-short n v q)) t in
    let p = join-same (inner v) (inner w) q r (sym (count-inner v) ∙ ap shape_count i.1 ∙ count-inner w) j in
    rec_same i.0 (value-same v w i.1 p.0) p.1

pub encode-same : (q r : Records) → encode q ≡ encode r → q ≡ r
encode-same q r e = same-within (suc (length (encode q))) q r (omega arith) e
