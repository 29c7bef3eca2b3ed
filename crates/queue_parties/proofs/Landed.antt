-- What a hart had stored is in memory, once a number that its writes alone move on is further there than it was for the hart: so an index,
-- or a tag, hands over all that was stored before it.
use Rattle.std.proofs.Common.{ℕ, suc, ◌+◌, ◌-◌, ◌<◌, ◌≤◌, ◌≡◌, ◌≢◌, ◌==◌, ◌⊎◌, inl, inr, if◌then◌else◌, List, [], ◌∷◌, ◌++◌, length, take, drop, refl, sym, ◌∙◌}
use Rattle.std.proofs.Common.{ap, subst, arith, append-nil, append_assoc, length-append, length-drop}
use Rattle.std.proofs.lemmas.Bool.{cases_eq, eq-eqb, ne_eqb}
use Rattle.std.proofs.lemmas.List.{drop-append-le, drop-drop}
use Rattle.memory.specs.declared.writes.Write.{Write}
use Rattle.step_machine.specs.declared.events.Entry.{Entry}
use Rattle.step_machine.specs.Names.{OpeningValue, history_of, Access, nothing, load, store, exchange, fence, land, access_of, hart_of, landed_by}
use Rattle.step_machine.specs.Names.{written_by, own_store, land_of, write_of, pending, own_stores, lands, read, AllowedBy, Allowed, LegalAfter, Legal}
use Rattle.step_machine.proofs.{LegalAfter-back, stores-append, lands-append}
use Rattle.store_buffers.proofs.LateStores.{stores-cases}
use Rattle.queue_parties.specs.Parties.{moved_through}

pub moved_through-more : (moved : ℕ → Write → ℕ) → ((n : ℕ) (w : Write) → n ≤ moved n w) → (n : ℕ) (ws : List Write) → n ≤ moved_through moved n ws
moved_through-more moved more n [] = omega arith
moved_through-more moved more n (w ∷ ws) = omega (arith, more n w, moved_through-more moved more (moved n w) ws)

pub moved_through-append : (moved : ℕ → Write → ℕ) (n : ℕ) (ws vs : List Write) → moved_through moved n (ws ++ vs)
    ≡ moved_through moved (moved_through moved n ws) vs
moved_through-append moved n [] vs = refl
moved_through-append moved n (w ∷ ws) vs = moved_through-append moved (moved n w) ws vs

module _ (B : ℕ) (o : OpeningValue) (h : ℕ) (moved : ℕ → Write → ℕ) (more-moved : (n : ℕ) (w : Write) → n ≤ moved n w) where
  -- what an entry makes of the number in memory
  abbrev pub Moves : List Entry → Entry → (n n2 : ℕ) → Type 0
  Moves now e n n2 = (hart_of e ≡ h → n2 ≡ moved_through moved n (write_of now e)) × (hart_of e ≢ h → n2 ≡ n)

  -- From some point on, `at`, where the number is n for the hart: either all that the hart had stored there has landed, and `more` stores
  -- besides, of one that it made since; or what is left of it makes just n of the number in memory
  module _ (at : List Entry) (n more : ℕ) (one : more ≤ 1) where
    abbrev pub Ahead : List Entry → ℕ → Type 0
    Ahead now m = (length (own_stores h at) + more ≤ lands h now) ⊎ (moved_through moved m (drop (lands h now) (own_stores h at)) ≡ n)

    module _ (gs : List Entry) (e : Entry) (m m2 : ℕ) (made : more ≤ length (own_stores h gs)) (moves : Moves (at ++ gs) e m m2) where
      abbrev now : List Entry
      now = at ++ gs

      landed-more : lands h (now ++ e ∷ []) ≡ lands h now + land_of h e
      landed-more = omega (arith, lands-append h now (e ∷ []))

      all-stores : own_stores h now ≡ own_stores h at ++ own_stores h gs
      all-stores = stores-append h at gs

      same : land_of h e ≡ 0 → m2 ≡ m → moved_through moved m (drop (lands h now) (own_stores h at)) ≡ n → Ahead (now ++ e ∷ []) m2
      same still level is_n =
          let none : lands h (now ++ e ∷ []) ≡ lands h now = omega (arith, landed-more, still) in
          inr (ap (λ k. moved_through moved k (drop (lands h (now ++ e ∷ [])) (own_stores h at))) level
          ∙ ap (λ k. moved_through moved m (drop k (own_stores h at))) none ∙ is_n)

      module _ (here : hart_of e ≡ h) (is_n : moved_through moved m (drop (lands h now) (own_stores h at)) ≡ n) where
        writes : (x : Access) → access_of e ≡ x → m2 ≡ moved_through moved m (written_by (take 1 (pending (hart_of e) now)) x)
        writes x does = moves.0 here ∙ ap (λ y. moved_through moved m (written_by (take 1 (pending (hart_of e) now)) y)) does

        module _ (does : access_of e ≡ land) where
          once : land_of h e ≡ 1
          once = ap (landed_by (hart_of e == h)) does ∙ ap (λ b. if b then 1 else 0) (eq-eqb (hart_of e) h here)

          lands-one : (ws : List Write) → drop (lands h now) (own_stores h at) ≡ ws → Ahead (now ++ e ∷ []) m2
          lands-one [] none =
              let z : length (own_stores h at) - lands h now ≡ 0 = sym (length-drop (lands h now) (own_stores h at)) ∙ ap length none in
              inl (omega (arith, z, landed-more, once, one))
          lands-one (w ∷ ws) some =
              let some_left : length (own_stores h at) - lands h now ≡ suc (length ws) =
              sym (length-drop (lands h now) (own_stores h at)) ∙ ap length some in
              let first : take 1 (pending (hart_of e) now) ≡ w ∷ [] = ap (λ g. take 1 (pending g now)) here ∙ ap (take 1) (ap (drop (lands h now)) all-stores
              ∙ drop-append-le (lands h now) (own_stores h at) (own_stores h gs) (omega (arith, some_left)) ∙ ap (λ vs. vs ++ own_stores h gs) some) in
              let rest : drop (lands h (now ++ e ∷ [])) (own_stores h at) ≡ ws =
              ap (λ k. drop k (own_stores h at)) (landed-more ∙ ap (λ k. lands h now + k) once)
              ∙ sym (drop-drop 1 (lands h now) (own_stores h at)) ∙ ap (drop 1) some in
              inr (ap (moved_through moved m2) rest ∙ ap (λ k. moved_through moved k ws) (writes land does ∙ ap (moved_through moved m) first)
              ∙ ap (moved_through moved m) (sym some) ∙ is_n)

        own : (x : Access) → access_of e ≡ x → AllowedBy B (pending (hart_of e) now) (read o now (hart_of e)) x → Ahead (now ++ e ∷ []) m2
        own nothing does allowed = same (ap (landed_by (hart_of e == h)) does) (writes nothing does) is_n
        own (load a width v) does allowed = same (ap (landed_by (hart_of e == h)) does) (writes (load a width v) does) is_n
        own (store w) does allowed = same (ap (landed_by (hart_of e == h)) does) (writes (store w) does) is_n
        own (fence full) does allowed = same (ap (landed_by (hart_of e == h)) does) (writes (fence full) does) is_n
        own (exchange a old new) does allowed =
            let none : length (pending h now) ≡ 0 = ap (λ g. length (pending g now)) (sym here) ∙ ap length allowed.0 in
            let parts : length (own_stores h now) ≡ length (own_stores h at) + length (own_stores h gs) =
            ap length all-stores ∙ length-append (own_stores h at) (own_stores h gs) in
            let rest : length (pending h now) ≡ length (own_stores h now) - lands h now = length-drop (lands h now) (own_stores h now) in
            inl (omega (arith, none, parts, rest, landed-more, made))
        own land does allowed = lands-one does (drop (lands h now) (own_stores h at)) refl

      still : hart_of e ≢ h → (x : Access) → landed_by (hart_of e == h) x ≡ 0
      still apart land = ap (λ b. if b then 1 else 0) (ne_eqb (hart_of e) h apart)
      still apart x = refl

      step : Allowed B o now e → Ahead now m → Ahead (now ++ e ∷ []) m2
      step allowed (inl all) = inl (omega (arith, all, landed-more))
      step allowed (inr is_n) = elim (cases_eq (hart_of e) h) [
        | inl here ↦ own here is_n (access_of e) refl allowed
        | inr apart ↦ same (still apart (access_of e)) (moves.1 apart) is_n
      ]

  -- a run, of which m tells for each front what the number in memory is
  module _ (before es : List Entry) (legal : Legal B (history_of o (before ++ es))) (m : List Entry → ℕ)
      (moves : (done : List Entry) (e : Entry) (rest : List Entry) → es ≡ done ++ e ∷ rest → Moves (before ++ done) e (m done) (m (done ++ e ∷ []))) where
    allowed-at : (done : List Entry) (e : Entry) (rest : List Entry) → es ≡ done ++ e ∷ rest → Allowed B o (before ++ done) e
    allowed-at done e rest split = (LegalAfter-back B o [] (before ++ done) (e ∷ rest)
        (subst (LegalAfter B o []) (ap (λ xs. before ++ xs) split ∙ sym (append_assoc before done (e ∷ rest))) legal)).0

    module _ (start : List Entry) (n more : ℕ) (one : more ≤ 1) where
      abbrev at : List Entry
      at = before ++ start

      -- after start and these entries
      abbrev AheadAfter : List Entry → Type 0
      AheadAfter gs = Ahead at n more one (at ++ gs) (m (start ++ gs))

      along : (gs fs : List Entry) → es ≡ start ++ (gs ++ fs) → more ≤ length (own_stores h gs) → AheadAfter gs → AheadAfter (gs ++ fs)
      along gs [] split made j = subst AheadAfter (sym (append-nil gs)) j
      along gs (e ∷ fs) split made j = subst AheadAfter (append_assoc gs (e ∷ []) fs) (along (gs ++ e ∷ []) fs on longer next)
        where
          parts : es ≡ (start ++ gs) ++ e ∷ fs
          parts = split ∙ sym (append_assoc start gs (e ∷ fs))

          on : es ≡ start ++ ((gs ++ e ∷ []) ++ fs)
          on = split ∙ ap (λ xs. start ++ xs) (sym (append_assoc gs (e ∷ []) fs))

          longer : more ≤ length (own_stores h (gs ++ e ∷ []))
          longer = let sum : length (own_stores h (gs ++ e ∷ [])) ≡ length (own_stores h gs) + length (own_stores h (e ∷ [])) =
              ap length (stores-append h gs (e ∷ [])) ∙ length-append (own_stores h gs) (own_stores h (e ∷ [])) in omega (arith, sum, made)

          here : before ++ (start ++ gs) ≡ at ++ gs
          here = sym (append_assoc before start gs)

          next : AheadAfter (gs ++ e ∷ [])
          next = subst (λ xs. Ahead at n more one xs (m (start ++ (gs ++ e ∷ [])))) (append_assoc at gs (e ∷ []))
              (step at n more one gs e (m (start ++ gs)) (m (start ++ (gs ++ e ∷ []))) made
              (subst (λ xs. Moves xs e (m (start ++ gs)) (m (start ++ (gs ++ e ∷ [])))) here
              (subst (λ xs. Moves (before ++ (start ++ gs)) e (m (start ++ gs)) (m xs)) (append_assoc start gs (e ∷ []))
              (moves (start ++ gs) e fs parts))) (subst (λ xs. Allowed B o xs e) here (allowed-at (start ++ gs) e fs parts)) j)

      pub landed : (gs fs : List Entry) → es ≡ start ++ (gs ++ fs) → more ≤ length (own_stores h gs) → AheadAfter gs → n < m es
          → length (own_stores h at) + more ≤ lands h (before ++ es)
      landed gs fs split made j further = subst (λ xs. length (own_stores h at) + more ≤ lands h xs)
          (append_assoc before start (gs ++ fs) ∙ ap (λ xs. before ++ xs) (sym split)) (elim (along gs fs split made j) [
            | inl all ↦ all
            | inr same ↦ absurd (omega (
              arith,
              moved_through-more moved more-moved (m (start ++ (gs ++ fs))) (drop (lands h (at ++ (gs ++ fs))) (own_stores h at)),
              same,
              ap m split,
              further,
            ))
          ])

    pub published : (start fs : List Entry) → es ≡ start ++ fs → (n : ℕ) → moved_through moved (m start) (pending h (before ++ start)) ≡ n → n < m es
        → length (own_stores h (before ++ start)) ≤ lands h (before ++ es)
    published start fs split n is_n further = omega (
      arith,
      landed start n 0 (omega arith) [] fs split (omega arith)
          (subst (λ xs. Ahead (before ++ start) n 0 (omega arith) xs (m (start ++ []))) (sym (append-nil (before ++ start)))
          (subst (λ xs. Ahead (before ++ start) n 0 (omega arith) (before ++ start) (m xs)) (sym (append-nil start)) (inr is_n))) further,
    )

    -- and what the hart stored by the next entry too: so also a store that moves the number
    pub published_with : (start : List Entry) (e : Entry) (fs : List Entry) → es ≡ start ++ e ∷ fs → (n : ℕ)
        → moved_through moved (m start) (pending h (before ++ start)) ≡ n → n < m es
        → length (own_stores h (before ++ (start ++ e ∷ []))) ≤ lands h (before ++ es)
    published_with start e fs split n is_n further = by (stores-cases h e)
      where
        at : List Entry
        at = before ++ start

        more : own_stores h (before ++ (start ++ e ∷ [])) ≡ own_stores h at ++ own_stores h (e ∷ [])
        more = ap (own_stores h) (sym (append_assoc before start (e ∷ []))) ∙ stores-append h at (e ∷ [])

        longer : length (own_stores h (before ++ (start ++ e ∷ []))) ≡ length (own_stores h at) + length (own_stores h (e ∷ []))
        longer = ap length more ∙ length-append (own_stores h at) (own_stores h (e ∷ []))

        by : (own_store h e ≡ []) ⊎ ((w : Write) × (own_store h e ≡ w ∷ []) × (hart_of e ≡ h) × (access_of e ≡ store w))
            → length (own_stores h (before ++ (start ++ e ∷ []))) ≤ lands h (before ++ es)
        by (inl none) = omega (arith, longer, ap (λ ws. length (ws ++ [])) none, published start (e ∷ fs) split n is_n further)
        by (inr (w, made_it, here, does)) =
            omega (
              arith,
              landed start n 1 (omega arith) (e ∷ []) fs split (omega (arith, made)) (inr (ap (λ k. moved_through moved k (drop (lands h (at ++ e ∷ []))
                  (own_stores h at))) unmoved ∙ ap (λ k. moved_through moved (m start) (drop k (own_stores h at))) still ∙ is_n)) further,
              longer,
              made,
            )
          where
            made : length (own_stores h (e ∷ [])) ≡ 1
            made = ap (λ ws. length (ws ++ [])) made_it

            still : lands h (at ++ e ∷ []) ≡ lands h at
            still = let none : land_of h e ≡ 0 = ap (landed_by (hart_of e == h)) does in omega (arith, lands-append h at (e ∷ []), none)

            unmoved : m (start ++ e ∷ []) ≡ m start
            unmoved = (moves start e fs split).0 here ∙ ap (λ x. moved_through moved (m start) (written_by (take 1 (pending (hart_of e) at)) x)) does
