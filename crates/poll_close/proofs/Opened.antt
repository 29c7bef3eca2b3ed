-- An opening is made: one sender more at the end, and the lists are looked through for a zero.
use Rattle.std.proofs.Common.{◌≡◌, ℕ, ◌+◌, ◌<◌, List, [], ◌∷◌, ◌++◌, length, take, get_or, map, Vec, Global, refl, sym, ◌∙◌, ap, arith, ◌≢◌, ◌^◌, ◌≤◌, All}
use Rattle.std.proofs.Common.{subst, ◌-◌, ◌*◌}
use Rattle.std.proofs.lemmas.List.{take_more, map-append, length-map, length-take-le, take_all, get_or-map, take-map}
use Rattle.step_machine.specs.History.{HartOpeningValue}
use Rattle.poll_close.specs.Layout.{Layout, sender_registers, senders_from, dense}
use Rattle.std.specs.Prelude.{slice_index}
use Rattle.std.proofs.lemmas.List.Elements.{All-push}
use Rattle.poll_close.specs.{AreWords, Ring, ZeroAt, ZeroWordAt, RefusesAt, IsOfLists, RefusedAt, Lists, UnevenBase, UnevenStride, BlocksMeet, FilledBlock}

pub senders-last : (code : List ℕ) (S : Layout) (j : ℕ) (lists : List (List ℕ)) (ws : List ℕ) (i : ℕ)
    → i ≡ j + length lists
    → senders_from code S j (lists ++ ws ∷ []) ≡ senders_from code S j lists
    ++ record { code = code; registers = sender_registers S i; inbox = ws } ∷ []
senders-last code S j [] ws i at = let same : j ≡ i = omega arith in rw same refl
senders-last code S j (xs ∷ lists) ws i at = grind (arith, senders-last code S (j + 1) lists ws i)

abbrev pub items_of : Vec ℕ Global → List ℕ
items_of v = v.items

abbrev hart_with : List ℕ → List ℕ → List ℕ → HartOpeningValue
hart_with code registers inbox = record { code = code; registers = registers; inbox = inbox }

-- the loop has made one sender more
pub senders-more : (lists : List (Vec ℕ Global)) (code : List ℕ) (S : Layout) (i : ℕ) (harts new : List HartOpeningValue)
    (list : Vec ℕ Global) (h : HartOpeningValue) → i < length lists → list ≡ get_or lists i list
    → harts ≡ senders_from code S 0 (map items_of (take i lists)) → new ≡ harts ++ h ∷ [] → h.code ≡ code
    → h.registers ≡ sender_registers S i → h.inbox ≡ list.items
    → new ≡ senders_from code S 0 (map items_of (take (i + 1) lists))
senders-more lists code S i harts new list h within is so_far pushed same_code same_registers same_inbox =
    let whole : h ≡ record { code = code; registers = sender_registers S i; inbox = list.items } =
    ap (λ x. hart_with x h.registers h.inbox) same_code ∙ ap (λ x. hart_with code x h.inbox) same_registers
    ∙ ap (λ x. hart_with code (sender_registers S i) x) same_inbox in
    let count : i ≡ 0 + length (map items_of (take i lists)) = omega (arith, length-map (take i lists) items_of, length-take-le i lists (omega arith)) in
    let more : map items_of (take (i + 1) lists) ≡ map items_of (take i lists) ++ list.items ∷ [] =
    ap (map items_of) (take_more lists i list within ∙ ap (λ v. take i lists ++ v ∷ []) (sym is))
    ∙ map-append items_of (take i lists) (list ∷ []) in
    pushed ∙ ap (λ hs. hs ++ h ∷ []) so_far ∙ ap (λ x. senders_from code S 0 (map items_of (take i lists)) ++ x ∷ []) whole
    ∙ sym (ap (senders_from code S 0) more ∙ senders-last code S 0 (map items_of (take i lists)) list.items i count)

-- ---- lists that are looked through

abbrev IsNonzeroWord : ℕ → Type 0
IsNonzeroWord w = (w < 2 ^ 32) × (w ≢ 0)

pub words_step : (ws : List ℕ) (j : ℕ) → j < length ws → slice_index ws j < 2 ^ 32 → slice_index ws j ≢ 0 → AreWords (take j ws) → AreWords (take (j + 1) ws)
words_step ws j less small some so_far =
    subst AreWords (sym (take_more ws j 0 less)) (All-push IsNonzeroWord (take j ws) (slice_index ws j) so_far (small, some))

pub words-all : (ws : List ℕ) (n : ℕ) → length ws ≤ n → AreWords (take n ws) → AreWords ws
words-all ws n past all = subst AreWords (take_all n ws past) all

pub lists-more : (lists : List (Vec ℕ Global)) (i : ℕ) (list : Vec ℕ Global) → i < length lists
    → list ≡ get_or lists i list → AreWords list.items → All AreWords (map items_of (take i lists))
    → All AreWords (map items_of (take (i + 1) lists))
lists-more lists i list less is words so_far =
    let more : map items_of (take (i + 1) lists) ≡ map items_of (take i lists) ++ list.items ∷ [] =
    ap (map items_of) (take_more lists i list less ∙ ap (λ v. take i lists ++ v ∷ []) (sym is))
    ∙ map-append items_of (take i lists) (list ∷ []) in
    subst (All AreWords) (sym more) (All-push AreWords (map items_of (take i lists)) list.items so_far words)

pub lists-all : (lists : List (Vec ℕ Global)) (n : ℕ) → length lists ≤ n → All AreWords (map items_of (take n lists)) → All AreWords (map items_of lists)
lists-all lists n past all = subst (λ (vs : List (Vec ℕ Global)). All AreWords (map items_of vs)) (take_all n lists past) all

pub list-found : (lists : List (Vec ℕ Global)) (i j : ℕ) (list : Vec ℕ Global) → i < length lists
    → list ≡ get_or lists i list → ZeroAt list.items j → All AreWords (map items_of (take i lists))
    → ZeroWordAt (map items_of lists) i j
list-found lists i j list less is zero so_far = grind (arith, length-map, get_or-map, All, take-map)

-- ---- the dense layout: its place is never why lists are refused

pub rows_before : (n T : ℕ) → 1 ≤ n → (n - 1) * T + T ≡ n * T
rows_before n T some =
    let next : n ≡ n - 1 + 1 = omega (arith, some) in
    let same : n * T ≡ (n - 1 + 1) * T = ap (λ j. j * T) next in
    omega (arith, same)

pub dense_refusal : (ring : Ring) (M : ℕ) (lists : List (List ℕ)) (S : ℕ) (why : RefusedAt) → RefusesAt ring M lists (dense S) why → IsOfLists why
dense_refusal ring M lists S (Lists refused) h = tt
dense_refusal ring M lists S UnevenBase h = omega (arith, h.1)
dense_refusal ring M lists S UnevenStride h = omega (arith, h.2)
dense_refusal ring M lists S BlocksMeet h = omega (arith, h.3)
dense_refusal ring M lists S (FilledBlock word) h = grind arith
