-- Sums of forms, and of what may be at most so much, in either order of summing up.
use Rattle.std.proofs.Common.{ℕ, ◌≡◌, ◌+◌, ◌∙◌, List, [], ◌∷◌, Option, Some, None, refl, sym, ap, add_assoc, zero-add, add-zero}
use Rattle.queue_certificates.specs.Forms.{Form, number, sums, plus, times, combined, added}

pub sums_assoc : (ks ms ns : List ℕ) → sums (sums ks ms) ns ≡ sums ks (sums ms ns)
sums_assoc [] ms ns = refl
sums_assoc (k ∷ ks) [] ns = refl
sums_assoc (k ∷ ks) (m ∷ ms) [] = refl
sums_assoc (k ∷ ks) (m ∷ ms) (n ∷ ns) = cc (add_assoc k m n, sums_assoc ks ms ns)

pub sums_none : (ms : List ℕ) → sums ms [] ≡ ms
sums_none [] = refl
sums_none (m ∷ ms) = refl

pub plus_assoc : (f g h : Form) → plus (plus f g) h ≡ plus f (plus g h)
plus_assoc f g h = cc (add_assoc f.constant g.constant h.constant, sums_assoc f.factors g.factors h.factors)

abbrev form_of : ℕ → List ℕ → Form
form_of c ms = record { constant = c; factors = ms }

same_parts : (c d : ℕ) (ms ns : List ℕ) → c ≡ d → ms ≡ ns → form_of c ms ≡ form_of d ns
same_parts c d ms ns e f = cc

pub plus_none : (f : Form) → plus f (number 0) ≡ f
plus_none f = same_parts (f.constant + 0) f.constant (sums f.factors []) f.factors (add-zero f.constant) (sums_none f.factors)

pub none_plus : (f : Form) → plus (number 0) f ≡ f
none_plus f = same_parts (0 + f.constant) f.constant f.factors f.factors (zero-add f.constant) refl

pub added_assoc : (a b c : Option ℕ) → added (added a b) c ≡ added a (added b c)
added_assoc None b c = refl
added_assoc (Some a) None c = refl
added_assoc (Some a) (Some b) None = refl
added_assoc (Some a) (Some b) (Some c) = cc (add_assoc a b c)

pub added_none : (a : Option ℕ) → added a (Some 0) ≡ a
added_none None = refl
added_none (Some a) = cc (add-zero a)

pub none_added : (a : Option ℕ) → added (Some 0) a ≡ a
none_added None = refl
none_added (Some a) = cc (zero-add a)

-- one multiple more of a form
pub combined_on : (total multiple next : Form) (m : ℕ) (ms : List ℕ) (g : Form) (gs : List Form) (whole : Form) (ks : List ℕ) (hs : List Form)
    → ks ≡ m ∷ ms → hs ≡ g ∷ gs → multiple ≡ times m g → next ≡ plus total multiple → plus total (combined ks hs) ≡ whole
    → plus next (combined ms gs) ≡ whole
combined_on total multiple next m ms g gs whole ks hs ek eh em et e = ap (λ (t : Form). plus t (combined ms gs)) et
    ∙ plus_assoc total multiple (combined ms gs) ∙ ap (λ (t : Form). plus total (plus t (combined ms gs))) em
    ∙ sym (ap (λ (xs : List ℕ). plus total (combined xs hs)) ek ∙ ap (λ (ys : List Form). plus total (combined (m ∷ ms) ys)) eh) ∙ e
