-- In the order of performing, a read has the value of the Load Value Axiom.
use Rattle.std.proofs.Common.{◌≡◌, ℕ, zero, suc, ◌+◌, ◌-◌, ◌≤◌, ◌<◌, Bool, true, false, not, ◌&&◌, ◌||◌, if◌then◌else◌, nat_lt, List, [], ◌∷◌, ◌++◌, length}
use Rattle.std.proofs.Common.{take, drop, Option, Some, None, unwrap_or, refl, sym, ◌∙◌, ap, subst, arith, append-nil, append_assoc, length-drop, ◌^◌}
use Rattle.std.specs.Prelude.{filter, option_to_list, option_and_then, slice_index, ◌%◌, ◌/◌}
use Rattle.std.specs.List.{AllPass, slice_get}
use Rattle.std.specs.Option.{option_map_or}
use Rattle.std.proofs.lemmas.Bool.{ltb-true, ltb-false, cond_both, and_right, or_right, not_from_false, false_from_ne_true, true_from_ne_false}
use Rattle.std.proofs.lemmas.List.{take-append-drop, length-take-le, drop-append-le, append_cancel_left}
use Rattle.std.proofs.lemmas.List.Elements.{All-drop, filter-append}
use Rattle.std.proofs.lemmas.Option.{slice_get_within}
use Rattle.std.specs.Int.{byte_at}
use Rattle.memory.specs.Writes.{write, covers, newest_of}
use Rattle.memory.proofs.Bytes.{joined-same, byte_below}
use Rattle.step_machine.specs.Names.{OpeningValue, History, hart_of, own_stores, lands, write_of, landed_after, opening_byte, memory_byte, read_byte, read}
use Rattle.step_machine.specs.Names.{Allowed, LegalAfter, Legal}
use Rattle.step_machine.specs.declared.events.Entry.{Entry}
use Rattle.step_machine.specs.declared.events.Entry.TheVariants as entry
use Rattle.memory.proofs.WholeWords.{newest_of-append}
use Rattle.step_machine.proofs.Appended.{LegalAfter-front, entry_there}
use Rattle.ztso_axioms.specs.Operations.{is_operation, passes, is_at, hart_at, read_of, written_to, written_at, byte_in}
use Rattle.ztso_axioms.specs.Axioms.{times_named, before_first, is_named, in_program_order, is_seen, last_written, byte_for, value_for, HasLoadValue, Ztso}
use Rattle.ztso_axioms.specs.Performed.{places_of, is_store_of, store_places, performed_by, performed_after, left_below, hart_bound, order}
use Rattle.ztso_axioms.proofs.Listing.{times-append, times-none, times-some, named-append, before-at}
use Rattle.ztso_axioms.proofs.Checked.{once_of, last_written-append}
use Rattle.ztso_axioms.proofs.Members.{IsPassed, passes_by_name, named_passes, AllPass-places, filter-every, filter-none, filter-same, filter-both, times-low}
use Rattle.ztso_axioms.proofs.Performs.{is_reader, stores_at, reads_at, stores_performed, order-stores, order-operations}
use Rattle.ztso_axioms.proofs.Fronts.{split_entry, at_past, order-front, AreWritten, AreWritten-length, AreWritten-drop, front_written, front_balanced}
use Rattle.ztso_axioms.proofs.Fronts.{front_stores, front_allows}
use Rattle.ztso_axioms.proofs.Ordered.{performed_order, kind_at, order-once, order-program, read_performed, read_not_yet}
use Rattle.memory.specs.declared.writes.Write.{Write}
use Rattle.std.proofs.Math.Nat.{pow-le-pow_right}
use Rattle.memory.proofs.Joined.{byte_of_joined-any, joined-below, number_of_bytes}

-- the last written value, and the newest of the pairs

chosen : (b : Bool) (v w : ℕ) (found : Option ℕ) → unwrap_or (if b then Some v else None) (unwrap_or found w) ≡ unwrap_or (if b then Some v else found) w
chosen b v w found = grind arith

written_values : (all : List Entry) (a w : ℕ) (found : Option ℕ) (gs : List ℕ) (ps : List Write)
    → AreWritten all gs ps → last_written all a (unwrap_or found w) gs ≡ unwrap_or (newest_of a found ps) w
written_values all a w found [] [] written = refl
written_values all a w found (g ∷ gs) (p ∷ ps) written =
    ap (λ so. last_written all a (unwrap_or so (unwrap_or found w)) gs) (written.0 a)
    ∙ ap (λ x. last_written all a x gs) (chosen (covers p a) (byte_at (a - p.addr) p.value) w found)
    ∙ written_values all a w (if covers p a then Some (byte_at (a - p.addr) p.value) else found) gs ps written.1
written_values all a w found gs ps written = absurd written

first_of : (xs ys : List ℕ) (k : ℕ) → k < length xs → option_to_list (slice_get (xs ++ ys) k) ≡ take 1 (drop k xs)
first_of [] ys k lt = absurd (omega arith)
first_of (x ∷ xs) ys zero lt = refl
first_of (x ∷ xs) ys (suc k) lt = first_of xs ys k (omega arith)

written_first : (all : List Entry) (gs : List ℕ) (ps : List Write) → AreWritten all gs ps → AreWritten all (take 1 gs) (take 1 ps)
written_first all gs ps written = grind arith

-- what one entry performs writes what it writes to memory
writes_by : (B : ℕ) (o : OpeningValue) (all us : List Entry) (e : Entry) (ws : List Entry) (a w : ℕ)
    (found : Option ℕ) → all ≡ us ++ e ∷ ws → Allowed B o us e
    → last_written all a (unwrap_or found w) (performed_by all us e) ≡ unwrap_or (newest_of a found (write_of us e)) w
writes_by B o all us e ws a w found split = at e split
  where
    written : (d : Entry) → all ≡ us ++ d ∷ ws → written_at all a (length us) ≡ written_to a d
    written d here = ap (λ zs. written_at zs a (length us)) here ∙ ap (option_and_then (written_to a)) (entry_there us d ws)

    at : (d : Entry) → all ≡ us ++ d ∷ ws → Allowed B o us d
        → last_written all a (unwrap_or found w) (performed_by all us d)
        ≡ unwrap_or (newest_of a found (write_of us d)) w
    at (entry.Load g b width v) here may = ap (λ so. unwrap_or so (unwrap_or found w)) (written (entry.Load g b width v) here)
    at (entry.Amo g b old new) here may = ap (λ so. unwrap_or so (unwrap_or found w))
        (written (entry.Amo g b old new) here) ∙ chosen (covers (write b 4 new) a) (byte_at (a - b) new) w found
    at (entry.Land g) here may =
        let pairs_written : AreWritten all (store_places g us) (own_stores g us) = front_written all us (entry.Land g ∷ ws) g here in
        let same : length (store_places g us) ≡ length (own_stores g us) = AreWritten-length all (store_places g us) (own_stores g us) pairs_written in
        let some : lands g us < length (store_places g us) = omega (arith, length-drop (lands g us) (own_stores g us)) in
        ap (λ zs. last_written all a (unwrap_or found w) (option_to_list (slice_get zs (lands g us)))) (front_stores all us (entry.Land g ∷ ws) g here)
        ∙ ap (last_written all a (unwrap_or found w))
        (first_of (store_places g us) (places_of (is_store_of g) (length us) (entry.Land g ∷ ws)) (lands g us) some)
        ∙ written_values all a w found (take 1 (drop (lands g us) (store_places g us))) (take 1 (drop (lands g us) (own_stores g us)))
        (written_first all (drop (lands g us) (store_places g us)) (drop (lands g us) (own_stores g us))
        (AreWritten-drop all (lands g us) (store_places g us) (own_stores g us) pairs_written))
    at other here may = refl

-- what entries perform writes what reaches memory
writes_after : (B : ℕ) (o : OpeningValue) (all us es ws : List Entry) (a w : ℕ) (found : Option ℕ)
    → all ≡ us ++ (es ++ ws) → LegalAfter B o us es
    → last_written all a (unwrap_or found w) (performed_after all us es)
    ≡ unwrap_or (newest_of a found (landed_after us es)) w
writes_after B o all us [] ws a w found split legal = refl
writes_after B o all us (e ∷ es) ws a w found split legal =
    last_written-append all a (unwrap_or found w) (performed_by all us e) (performed_after all (us ++ e ∷ []) es)
    ∙ ap (λ x. last_written all a x (performed_after all (us ++ e ∷ []) es)) (writes_by B o all us e (es ++ ws) a w found split legal.0)
    ∙ writes_after B o all (us ++ e ∷ []) es ws a w (newest_of a found (write_of us e)) (split ∙ sym (append_assoc us (e ∷ []) (es ++ ws))) legal.1
    ∙ ap (λ so. unwrap_or so w) (sym (newest_of-append a found (write_of us e) (landed_after (us ++ e ∷ []) es)))

front_memory : (B : ℕ) (o : OpeningValue) (es us ws : List Entry) (a : ℕ) → LegalAfter B o [] es → es ≡ us ++ ws
    → last_written es a (opening_byte o a) (performed_after es [] us) ≡ memory_byte o us a
front_memory B o es us ws a legal split =
    writes_after B o es [] us ws a (opening_byte o a) None split (LegalAfter-front B o [] us ws (subst (λ (zs : List Entry). LegalAfter B o [] zs) split legal))

-- what a read sees

-- of what a hart's read does not find performed, it sees its own stores before it
sees_own : (es : List Entry) (q x : ℕ) (us ws : List Entry) → es ≡ us ++ ws → length us ≡ q
    → is_named x (performed_after es [] us) ≡ false → is_at is_operation es x ≡ true
    → in_program_order es x q ≡ (stores_at es (hart_at es q) x && nat_lt x q)
sees_own es q x us ws split len out op = grind (arith, kind_at, reads_at, stores_at, nat_lt, false_from_ne_true, ltb-true, read_performed, and_right)

-- the stores of a hart that the front has not performed
back_stores : (es us ws : List Entry) (h : ℕ) → es ≡ us ++ ws
    → filter (stores_at es h) (performed_after es us ws ++ left_below (hart_bound es) es)
    ≡ drop (lands h us) (store_places h es)
back_stores es us ws h split =
    append_cancel_left (take (lands h us) (store_places h es))
    (filter (stores_at es h) (performed_after es us ws ++ left_below (hart_bound es) es))
    (drop (lands h us) (store_places h es))
    (ap (λ zs. zs ++ filter (stores_at es h) (performed_after es us ws ++ left_below (hart_bound es) es)) (sym (stores_performed es [] us ws h split))
    ∙ sym (filter-append (stores_at es h) (performed_after es [] us) (performed_after es us ws ++ left_below (hart_bound es) es))
    ∙ ap (filter (stores_at es h)) (sym (order-front es us ws split))
    ∙ order-stores es h
    ∙ sym (take-append-drop (lands h us) (store_places h es)))

-- those of them before place q are the pending ones
pending_places : (B : ℕ) (o : OpeningValue) (es us ws : List Entry) (h q : ℕ) → LegalAfter B o [] es → es ≡ us ++ ws
    → length us ≡ q
    → filter (λ x. nat_lt x q) (drop (lands h us) (store_places h es)) ≡ drop (lands h us) (store_places h us)
pending_places B o es us ws h q legal split len =
    ap (λ zs. filter (λ x. nat_lt x q) (drop (lands h us) zs)) (front_stores es us ws h split)
    ∙ ap (filter (λ x. nat_lt x q))
    (drop-append-le (lands h us) (store_places h us) (places_of (is_store_of h) (length us) ws)
    (front_balanced B o es us ws h legal split))
    ∙ filter-append (λ x. nat_lt x q) (drop (lands h us) (store_places h us)) (places_of (is_store_of h) (length us) ws)
    ∙ ap (λ zs. zs ++ filter (λ x. nat_lt x q) (places_of (is_store_of h) (length us) ws))
    (filter-every (λ x. nat_lt x q) (drop (lands h us) (store_places h us)) (All-drop (IsPassed (λ y. nat_lt y q)) (lands h us) (store_places h us) early))
    ∙ ap (λ zs. drop (lands h us) (store_places h us) ++ zs) (filter-none (λ x. nat_lt x q) (places_of (is_store_of h) (length us) ws) late)
    ∙ append-nil (drop (lands h us) (store_places h us))
  where
    early : AllPass (λ x. nat_lt x q) (store_places h us)
    early = passes_by_name (λ x. nat_lt x q) (store_places h us) (λ x named. true_from_ne_false _ (λ lt.
        let le : q ≤ x = ltb-false x q lt in
        let here : is_at (is_store_of h) us x ≡ true
        = named_passes (is_at (is_store_of h) us) (store_places h us) x (AllPass-places (is_store_of h) us) named in
        let past : is_at (is_store_of h) us x ≡ false = at_past (is_store_of h) us x (omega arith) in
        (cc)))

    late : AllPass (λ x. not (nat_lt x q)) (places_of (is_store_of h) (length us) ws)
    late = passes_by_name (λ x. not (nat_lt x q)) (places_of (is_store_of h) (length us) ws) (λ x named. not_from_false _ (false_from_ne_true _ (λ lt.
        let below : x < q = ltb-true x q lt in
        let none : times_named x (places_of (is_store_of h) (length us) ws) ≡ 0 = times-low (is_store_of h) x (length us) ws (omega arith) in
        let some : 1 ≤ times_named x (places_of (is_store_of h) (length us) ws) = times-some x (places_of (is_store_of h) (length us) ws) named in
        omega arith)))

-- a read performs itself
reader_performs : (es us : List Entry) (e : Entry) → is_reader e ≡ true → performed_by es us e ≡ length us ∷ []
reader_performs es us e is = grind arith

-- what stands before a read is what the front performed
before-read : (es us : List Entry) (e : Entry) (ws : List Entry) (q : ℕ) → es ≡ us ++ e ∷ ws → length us ≡ q
    → is_reader e ≡ true → reads_at es q ≡ true → before_first q (performed_order es) ≡ performed_after es [] us
before-read es us e ws q split len reader reads =
    let absent : times_named q (performed_after es [] us) ≡ 0 =
    times-none q (performed_after es [] us) (read_not_yet es us (e ∷ ws) q split reads (omega arith)) in
    let itself : performed_by es us e ≡ q ∷ [] = reader_performs es us e reader ∙ ap (λ n. n ∷ []) len in
    ap (before_first q) (order-front es us (e ∷ ws) split)
    ∙ ap (λ zs. before_first q (performed_after es [] us ++ ((zs ++ performed_after es (us ++ e ∷ []) ws) ++ left_below (hart_bound es) es))) itself
    ∙ before-at q (performed_after es [] us) (performed_after es (us ++ e ∷ []) ws ++ left_below (hart_bound es) es) absent

-- a read sees what the front performed, and then its hart's pending stores
seen_by_read : (B : ℕ) (o : OpeningValue) (es us : List Entry) (e : Entry) (ws : List Entry) (q : ℕ)
    → LegalAfter B o [] es → es ≡ us ++ e ∷ ws → length us ≡ q → is_reader e ≡ true → reads_at es q ≡ true
    → filter (is_seen es (performed_order es) q) (performed_order es) ≡ performed_after es [] us
    ++ drop (lands (hart_at es q) us) (store_places (hart_at es q) us)
seen_by_read B o es us e ws q legal split len reader reads =
    ap (filter (is_seen es (performed_order es) q)) (order-front es us (e ∷ ws) split)
    ∙ filter-append (is_seen es (performed_order es) q) (performed_after es [] us) (performed_after es us (e ∷ ws) ++ left_below (hart_bound es) es)
    ∙ ap (λ zs. zs
    ++ filter (is_seen es (performed_order es) q) (performed_after es us (e ∷ ws) ++ left_below (hart_bound es) es))
    (filter-every (is_seen es (performed_order es) q) (performed_after es [] us) front)
    ∙ ap (λ zs. performed_after es [] us ++ zs)
    (filter-same (is_seen es (performed_order es) q) (λ x. stores_at es (hart_at es q) x && nat_lt x q)
    (performed_after es us (e ∷ ws) ++ left_below (hart_bound es) es) back
    ∙ filter-both (stores_at es (hart_at es q)) (λ x. nat_lt x q) (performed_after es us (e ∷ ws) ++ left_below (hart_bound es) es)
    ∙ ap (filter (λ x. nat_lt x q)) (back_stores es us (e ∷ ws) (hart_at es q) split)
    ∙ pending_places B o es us (e ∷ ws) (hart_at es q) q legal split len)
  where
    seen_is : (x : ℕ) → is_seen es (performed_order es) q x ≡ (is_named x (performed_after es [] us) || in_program_order es x q)
    seen_is x = ap (λ gs. is_named x gs || in_program_order es x q) (before-read es us e ws q split len reader reads)

    front : AllPass (is_seen es (performed_order es) q) (performed_after es [] us)
    front = passes_by_name (is_seen es (performed_order es) q) (performed_after es [] us) (λ x named. seen_is x ∙ ap (λ b. b || in_program_order es x q) named)

    not_in_front : (x : ℕ) → is_named x (performed_after es us (e ∷ ws) ++ left_below (hart_bound es) es) ≡ true → is_named x (performed_after es [] us) ≡ false
    not_in_front x named = false_from_ne_true _ (λ is.
        let whole : times_named x (performed_order es) ≡ times_named x (performed_after es [] us) + times_named x
        (performed_after es us (e ∷ ws) ++ left_below (hart_bound es) es)
        = ap (times_named x) (order-front es us (e ∷ ws) split) ∙ times-append x (performed_after es [] us)
        (performed_after es us (e ∷ ws) ++ left_below (hart_bound es) es) in
        let some : 1 ≤ times_named x (performed_after es [] us) = times-some x (performed_after es [] us) is in
        let more : 1 ≤ times_named x (performed_after es us (e ∷ ws) ++ left_below (hart_bound es) es) =
        times-some x (performed_after es us (e ∷ ws) ++ left_below (hart_bound es) es) named in
        let few : times_named x (performed_order es) ≤ 1 = (once_of es (performed_order es) (order-once es)).once x in
        omega arith)

    operation : (x : ℕ) → is_named x (performed_after es us (e ∷ ws) ++ left_below (hart_bound es) es) ≡ true → is_at is_operation es x ≡ true
    operation x named =
        named_passes (is_at is_operation es) (performed_order es) x (order-operations es)
        (ap (is_named x) (order-front es us (e ∷ ws) split)
        ∙ named-append x (performed_after es [] us) (performed_after es us (e ∷ ws) ++ left_below (hart_bound es) es)
        ∙ or_right (is_named x (performed_after es [] us)) _ named)

    back : (x : ℕ) → is_named x (performed_after es us (e ∷ ws) ++ left_below (hart_bound es) es) ≡ true
        → is_seen es (performed_order es) q x ≡ (stores_at es (hart_at es q) x && nat_lt x q)
    back x named =
        let out : is_named x (performed_after es [] us) ≡ false = not_in_front x named in
        seen_is x ∙ ap (λ b. b || in_program_order es x q) out ∙ sees_own es q x us (e ∷ ws) split len out (operation x named)

-- so each byte is what the store buffers and memory give it
byte_of_read : (B : ℕ) (o : OpeningValue) (es us : List Entry) (e : Entry) (ws : List Entry) (q a : ℕ)
    → LegalAfter B o [] es → es ≡ us ++ e ∷ ws → length us ≡ q → is_reader e ≡ true → reads_at es q ≡ true
    → byte_for o es (performed_order es) q a ≡ read_byte o us (hart_at es q) a
byte_of_read B o es us e ws q a legal split len reader reads =
    ap (last_written es a (opening_byte o a)) (seen_by_read B o es us e ws q legal split len reader reads)
    ∙ last_written-append es a (opening_byte o a) (performed_after es [] us) (drop (lands (hart_at es q) us) (store_places (hart_at es q) us))
    ∙ ap (λ w. last_written es a w (drop (lands (hart_at es q) us) (store_places (hart_at es q) us))) (front_memory B o es us (e ∷ ws) a legal split)
    ∙ written_values es a (memory_byte o us a) None
    (drop (lands (hart_at es q) us) (store_places (hart_at es q) us))
    (drop (lands (hart_at es q) us) (own_stores (hart_at es q) us))
    (AreWritten-drop es (lands (hart_at es q) us) (store_places (hart_at es q) us) (own_stores (hart_at es q) us)
    (front_written es us (e ∷ ws) (hart_at es q) split))

reads_what : (B : ℕ) (o : OpeningValue) (us : List Entry) (e : Entry) (a n v : ℕ) → read_of e ≡ Some (a, n, v)
    → Allowed B o us e → (is_reader e ≡ true) × (v ≡ read o us (hart_of e) a n)
reads_what B o us e a n v is may = grind arith

pub order-values : (B : ℕ) (o : OpeningValue) (es : List Entry) → LegalAfter B o [] es → (q : ℕ) → HasLoadValue o es (performed_order es) q
order-values B o es legal q a width v is = at (slice_get es q) refl is
  where
    at : (so : Option Entry) → slice_get es q ≡ so → option_and_then read_of so ≡ Some (a, width, v) → v ≡ value_for o es (performed_order es) q a width
    at None here none = cc
    at (Some e) here some =
        let us : List Entry = take q es in
        let ws : List Entry = drop (suc q) es in
        let split : es ≡ us ++ e ∷ ws = split_entry es q e here in
        let within : q < length es = slice_get_within es q e here in
        let len : length us ≡ q = length-take-le q es (omega arith) in
        let what : (is_reader e ≡ true) × (v ≡ read o us (hart_of e) a width) = reads_what B o us e a width v some (front_allows B o es us e ws legal split) in
        let reads : reads_at es q ≡ true = ap (passes is_reader) here ∙ what.0 in
        let mine : hart_at es q ≡ hart_of e = ap (λ so. option_map_or hart_of so 0) here in
        what.1 ∙ ap (λ h. read o us h a width) (sym mine)
        ∙ joined-same (λ i. read_byte o us (hart_at es q) (a + i))
        (λ i. byte_for o es (performed_order es) q (a + i)) width
        (λ i lt. sym (byte_of_read B o es us e ws q (a + i) legal split len what.0 reads))

-- a legal trace satisfies the axioms in the order in which it performed
pub legal-ztso : (B : ℕ) (t : History) → Legal B t → Ztso t (order t)
legal-ztso B t legal = grind (arith, order-once, order-program, order-values)

-- ---- A read's value against the bytes that the order gives it

byte_in-below : (w : Write) (a b : ℕ) → b < 256 → unwrap_or (byte_in w a) b < 256
byte_in-below w a b small = cond_both (covers w a) _ _ (λ found. unwrap_or found b < 256) (λ _. byte_below (a - w.addr) w.value) (λ _. small)

written_below : (a b : ℕ) (so : Option Entry) → b < 256 → unwrap_or (option_and_then (written_to a) so) b < 256
written_below a b so small = grind (arith, byte_in-below)

last_below : (es : List Entry) (a b : ℕ) (gs : List ℕ) → b < 256 → last_written es a b gs < 256
last_below es a b [] small = small
last_below es a b (g ∷ gs) small = last_below es a (unwrap_or (written_at es a g) b) gs (written_below a b (slice_get es g) small)

pub byte_for-below : (o : OpeningValue) (es : List Entry) (gs : List ℕ) (q a : ℕ) → byte_for o es gs q a < 256
byte_for-below o es gs q a = last_below es a (opening_byte o a) (filter (is_seen es gs q) gs) (byte_below (a % 4) (slice_index o.words (a / 4)))

-- the value is the number of the bytes, where each is right and nothing is above them
pub value_from_bytes : (o : OpeningValue) (es : List Entry) (gs : List ℕ) (q a width v : ℕ) → v < 256 ^ width
    → ((i : ℕ) → i < width → byte_at i v ≡ byte_for o es gs q (a + i)) → v ≡ value_for o es gs q a width
value_from_bytes o es gs q a width v below same = number_of_bytes (λ i. byte_for o es gs q (a + i)) v width below same

pub bytes_from_value : (o : OpeningValue) (es : List Entry) (gs : List ℕ) (q a width v i : ℕ)
    → v ≡ value_for o es gs q a width → i < width → byte_at i v ≡ byte_for o es gs q (a + i)
bytes_from_value o es gs q a width v i is lt = grind (arith, byte_of_joined-any, byte_for-below)

pub below_from_value : (o : OpeningValue) (es : List Entry) (gs : List ℕ) (q a width v : ℕ) → v ≡ value_for o es gs q a width → v < 256 ^ width
below_from_value o es gs q a width v is = subst (λ (n : ℕ). n < 256 ^ width) (sym is)
    (joined-below (λ j. byte_for o es gs q (a + j)) (λ j. byte_for-below o es gs q (a + j)) width)

pub below_all : (n v : ℕ) → 4 ≤ n → v < 2 ^ 32 → v < 256 ^ n
below_all n v four small = let large : 256 ^ 4 ≤ 256 ^ n = pow-le-pow_right (omega arith) four in omega arith
