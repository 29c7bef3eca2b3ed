-- From the laws of one block to the laws of a ring: the opening has the meaning, every entry keeps it,
-- it gives clean reports, and no hart is stopped.
use Rattle.std.proofs.Common.{ℕ, zero, suc, ◌+◌, ◌-◌, ◌*◌, ◌<◌, ◌≤◌, ◌≡◌, ◌==◌, ◌⊎◌, inl, inr, false, List, [], ◌∷◌, ◌++◌, length, take, Some, refl, sym, ◌∙◌}
use Rattle.std.proofs.Common.{ap, subst, arith, append-nil, add-one}
use Rattle.std.specs.Prelude.{◌/◌, slice_index}
use Rattle.std.specs.List.{slice_get, slice_index_or}
use Rattle.std.proofs.lemmas.Bool.Decides.{nat_tests}
use Rattle.std.proofs.lemmas.Nat.{row_fits}
use Rattle.std.proofs.lemmas.Option.{slice_get_past}
use Rattle.std.proofs.Math.Nat.{mul_assoc}
use Rattle.step_machine.specs.declared.events.Entry.{Entry}
use Rattle.step_machine.specs.declared.events.Entry.TheVariants as entry
use Rattle.step_machine.specs.Names.{History, at_opening, with_entry, hart_of, is_land, reported, access_of, WritesWord, AllWriteWords, OpensWithWords}
use Rattle.step_machine.specs.Names.{state_of, CanFollow}
use Rattle.step_machine.proofs.{AllWriteWords-append, reported-last, Path-hart, state_of-other, report_of-other, states_land}
use Rattle.poll_close.specs.Layout.{Layout, sender_registers, senders_from, opening_at, Touches, AllTouch}
use Rattle.poll_close.specs.{Ring, Meaning, AreWords, AcceptedAt, FitsHart, Opens, Keeps, Cleans, Goes, Stays, GoesOn, AllGoOn, block_of, as_writes}
use Rattle.poll_close.specs.{receiver_of, BlockInvariant, BlockPart, all_closings, Channel, means_by}
use Rattle.poll_close.proofs.Blocks.{IsBlock, Within}
use Rattle.poll_close.proofs.CleanReports.{clean-none}
use Rattle.poll_close.proofs.Windows.{each_more}
use Rattle.poll_close.proofs.Opened.{rows_before}
use Rattle.poll_close.proofs.BlockLaws.{BlockLaws, Begins, opens_with}
use Rattle.poll_close.proofs.AllBlocks.{BlocksAfter, sender_goes_on, sender_acts, sender_store_lands, receiver_store_lands}
use Rattle.poll_close.proofs.ReceiverActs.{part_stays, reports_stay, Received, receiver_goes_on, receiver_acts}
use Rattle.poll_close.proofs.Delivering.{senders-length}

-- what a ring's kind states of it
abbrev pub AllLaws : Ring → Meaning → Type 0
AllLaws ring means = FitsHart ring × Opens ring means × Keeps ring means × Cleans ring means × Goes ring means × Stays ring means

-- the blocks of an accepted opening
pub blocks : (ring : Ring) (M : ℕ) (S : Layout) (lists : List (List ℕ)) → 1 ≤ ring.least → AcceptedAt ring M lists S
    → (i : ℕ) → i < length lists → IsBlock (block_of M S lists i)
blocks ring M S lists some accepted i within =
    let step : S.stride ≡ S.stride / 4 * 4 = omega (arith, accepted.stride) in
    let bytes : i * S.stride ≡ i * (S.stride / 4) * 4 = ap (λ n. i * n) step ∙ sym (mul_assoc i (S.stride / 4) 4) in
    let last : i * S.stride + S.stride ≤ length lists * S.stride = row_fits i S.stride (length lists) S.stride within (omega arith) in
    let whole : (length lists - 1) * S.stride + S.stride ≡ length lists * S.stride = rows_before (length lists) S.stride accepted.some_sender in
    let words : AreWords (slice_index_or lists i []) = accepted.words i [] within in
    record {
      some_slot = omega (arith, some, accepted.size);
      even = omega (arith, accepted.base, bytes);
      inside = omega (arith, accepted.fits, whole, last);
      first = omega arith;
      room = accepted.room;
      next = omega (arith, accepted.ends, last);
      small = omega (arith, accepted.memory);
      wide = omega (arith, accepted.memory);
      words = λ j less. (words j 0 less).0;
      full = λ j less. (words j 0 less).1;
    }

sender_start : (code : List ℕ) (S : Layout) (j i : ℕ) (lists : List (List ℕ)) → i < length lists
    → slice_get (senders_from code S j lists) i
    ≡ Some (record { code = code; registers = sender_registers S (j + i); inbox = slice_index_or lists i [] })
sender_start code S j i [] within = absurd (omega arith)
sender_start code S j zero (ws ∷ lists) within = let same : j + 0 ≡ j = omega arith in rw same refl
sender_start code S j (suc i) (ws ∷ lists) within = grind (arith, sender_start code S (j + 1) i lists)

start_state : (code receiver : List ℕ) (M : ℕ) (S : Layout) (lists : List (List ℕ)) (i : ℕ) → i < length lists
    → state_of M (at_opening (opening_at code receiver lists S)) (i + 1) ≡ Some (opens_with code (block_of M S lists i))
start_state code receiver M S lists i within = grind (arith, sender_start, add-one)

act_or_land : (e : Entry) → (is_land e ≡ false) ⊎ ((h : ℕ) × (e ≡ entry.Land h))
act_or_land e = grind arith

not_zero : (h j : ℕ) → h ≡ suc j → (h == 0) ≡ false
not_zero h j is = grind (arith, nat_tests)

is_hart : (code receiver : List ℕ) (B M : ℕ) (S : Layout) (lists : List (List ℕ)) (t : History) (e : Entry)
    → t.opening ≡ opening_at code receiver lists S → CanFollow B M t e → hart_of e < suc (length lists)
is_hart code receiver B M S lists t e is can = grind (arith, senders-length, Path-hart, slice_get_past)

one_more : (es : List Entry) (e : Entry) → AllWriteWords es → WritesWord (access_of e) → AllWriteWords (es ++ e ∷ [])
one_more es e all one = AllWriteWords-append es (e ∷ []) all (one, tt)

module _ (m : BlockInvariant) (laws : BlockLaws m) (least : ℕ) (some : 1 ≤ least) where
  abbrev pub ring_by : Ring
  ring_by = record { sender = m.sender.code; receiver = receiver_of m.ring_lines; least = least }

  module _ (M : ℕ) (S : Layout) (lists : List (List ℕ)) (accepted : AcceptedAt ring_by M lists S) where
    begun : (i : ℕ) → i < length lists → Begins m laws.none (block_of M S lists i) (opens_with m.sender.code (block_of M S lists i))
    begun i within = laws.begins (block_of M S lists i) (blocks ring_by M S lists some accepted i within)

    none_shut : (count : ℕ) → count ≤ length lists → count + all_closings m (λ i. laws.none) count ≡ count + 0
    none_shut zero less = refl
    none_shut (suc i) less = omega (arith, (begun i (omega arith)).closings, none_shut i (omega arith))

    zero_there : (i : ℕ) (within : i < length lists) (a : ℕ) → Within (block_of M S lists i) a → slice_index S.words (a / 4) ≡ 0
    zero_there i within a here =
        let is : IsBlock (block_of M S lists i) = blocks ring_by M S lists some accepted i within in
        accepted.empty.empty (a / 4) (record { block = i; known = within; from = omega (arith, is.even, here.from); below = omega (arith, here.below) })

    part : (i : ℕ) → i < length lists → BlockPart m (block_of M S lists i) M i
        (at_opening (opening_at m.sender.code (receiver_of m.ring_lines) lists S)) laws.none
    part i within =
        let b = begun i within in
        record {
          order = b.order;
          sender = record {
            stands = opens_with m.sender.code (block_of M S lists i);
            state = start_state m.sender.code (receiver_of m.ring_lines) M S lists i within;
            holds = b.stands;
            buffer = ap as_writes (sym b.unsent);
          };
          theirs = ap as_writes (sym b.unread);
          words = laws.words_same (block_of M S lists i) laws.none.landed (λ a. 0) (λ a. slice_index S.words (a / 4))
              (blocks ring_by M S lists some accepted i within) (λ a here. zero_there i within a here) b.words;
        }

    opened : Channel m M S lists (at_opening (opening_at m.sender.code (receiver_of m.ring_lines) lists S))
    opened = record {
      numbers = λ i. laws.none;
      parts = part;
      receiver = record {
        place = 0x00;
        noted = record { x5 = 0; x6 = 0; x7 = 0; x8 = 0; x10 = 0; x11 = 0; x17 = 0; x20 = length lists; x22 = 0; x28 = 0; x30 = 0 };
        block = 0;
        known = omega (arith, accepted.some_sender);
        state = refl;
        holds = (begun 0 (omega (arith, accepted.some_sender))).quiet;
        others = λ j within other. (begun j within).quiet;
        count = none_shut (length lists) (omega arith);
      };
      reports = record {
        senders = λ j within. record {
          words = ap (λ c. take c (slice_index_or lists j [])) (sym (begun j within).took);
          closed = λ k is. cc;
          reporting = λ is. absurd (omega (arith, (begun j within).closings, is));
        };
        clean = clean-none lists;
      };
      unstopped = λ j e is. cc;
      touched = λ j e is. cc;
      written = tt;
    }

  pub opens : Opens ring_by (means_by m)
  unfolding Opens
  opens B M lists S accepted = opened M S lists accepted

  pub keeps : Keeps ring_by (means_by m)
  unfolding Keeps
  keeps B M lists S t e accepted is kept can ch =
      elim (act_or_land e) [
        | inl act ↦ acts (hart_of e) refl act
        | inr land ↦ lands land.0 land.1 land.0 refl
      ]
    where
      are : (i : ℕ) → i < length lists → IsBlock (block_of M S lists i)
      are = blocks ring_by M S lists some accepted

      opens_words : (u : History) → u.opening ≡ opening_at m.sender.code (receiver_of m.ring_lines) lists S → OpensWithWords u.opening
      opens_words u same = subst OpensWithWords (sym same) accepted.empty.small

      go_on : (new : History) → state_of M new 0 ≡ state_of M t 0 → reported 0 new.entries ≡ reported 0 t.entries
          → BlocksAfter m M S lists new ch.numbers → AllGoOn new.entries → AllTouch S (length lists) new.entries
          → AllWriteWords new.entries → Channel m M S lists new
      go_on new state reporting b all reached words = record {
        unstopped = all;
        touched = reached;
        written = words;
        numbers = b.numbers;
        parts = b.parts;
        receiver = part_stays m M S lists t new ch.numbers b state ch.receiver;
        reports = reports_stay m M S lists t new ch.numbers b (reported 0 t.entries) (reported 0 new.entries) reporting ch.reports;
      }

      acts : (h : ℕ) → hart_of e ≡ h → is_land e ≡ false → Channel m M S lists (with_entry t e)
      acts zero mine act =
          let plain : GoesOn e × WritesWord (access_of e) × Touches S (length lists) e =
          receiver_goes_on m laws B M S lists (blocks ring_by M S lists some accepted) accepted.senders t ch.numbers
          kept.legal (opens_words t is) ch.written ch.parts ch.receiver ch.reports e can mine act in
          let r : Received m M S lists (with_entry t e) =
          receiver_acts m laws B M S lists (blocks ring_by M S lists some accepted) accepted.senders t ch.numbers
          kept.legal (opens_words t is) ch.written ch.parts ch.receiver ch.reports e can mine act in
          record {
            numbers = r.numbers;
            parts = r.parts;
            receiver = r.receiver;
            reports = r.reports;
            unstopped = each_more GoesOn t.entries e ch.unstopped plain.0;
            touched = each_more (Touches S (length lists)) t.entries e ch.touched plain.2;
            written = one_more t.entries e ch.written plain.1;
          }
      acts (suc j) mine act =
          let within : j < length lists = omega (arith, is_hart m.sender.code (receiver_of m.ring_lines) B M S lists t e is can, mine) in
          let other : (hart_of e == 0) ≡ false = not_zero (hart_of e) j mine in
          let plain : GoesOn e × WritesWord (access_of e) × Touches S (length lists) e =
          sender_goes_on m laws B M S lists (blocks ring_by M S lists some accepted) t ch.numbers kept.legal
          (opens_words t is) ch.written ch.parts j within e can (mine ∙ sym (add-one j)) act in
          go_on (with_entry t e) (state_of-other M t 0 e (rw other refl))
          (reported-last 0 t.entries e ∙ ap (λ rs. reported 0 t.entries ++ rs) (report_of-other 0 e other)
          ∙ append-nil (reported 0 t.entries))
          (sender_acts m laws B M S lists (blocks ring_by M S lists some accepted) t ch.numbers kept.legal
          (opens_words t is) ch.written ch.parts j within e can (mine ∙ sym (add-one j)) act)
          (each_more GoesOn t.entries e ch.unstopped plain.0)
          (each_more (Touches S (length lists)) t.entries e ch.touched plain.2)
          (one_more t.entries e ch.written plain.1)

      lands : (h : ℕ) → e ≡ entry.Land h → (g : ℕ) → h ≡ g → Channel m M S lists (with_entry t e)
      lands h land zero same =
          let is_0 : e ≡ entry.Land 0 = land ∙ ap entry.Land same in
          subst (λ (d : Entry). Channel m M S lists (with_entry t d)) (sym is_0)
          (go_on (with_entry t (entry.Land 0)) (states_land M t 0 0) (reported-last 0 t.entries (entry.Land 0) ∙ append-nil (reported 0 t.entries))
          (receiver_store_lands m laws B M S lists (blocks ring_by M S lists some accepted) t ch.numbers kept.legal
          (opens_words t is) ch.written ch.parts
          (subst (CanFollow B M t) is_0 can)) (each_more GoesOn t.entries (entry.Land 0) ch.unstopped tt)
          (each_more (Touches S (length lists)) t.entries (entry.Land 0) ch.touched tt)
          (one_more t.entries (entry.Land 0) ch.written tt))
      lands h land (suc j) same =
          let is_j : e ≡ entry.Land (j + 1) = land ∙ ap entry.Land (same ∙ sym (add-one j)) in
          let within : j < length lists = omega (arith, is_hart m.sender.code (receiver_of m.ring_lines) B M S lists t e is can, ap hart_of is_j) in
          subst (λ (d : Entry). Channel m M S lists (with_entry t d)) (sym is_j)
          (go_on (with_entry t (entry.Land (j + 1))) (states_land M t (j + 1) 0)
          (reported-last 0 t.entries (entry.Land (j + 1)) ∙ append-nil (reported 0 t.entries))
          (sender_store_lands m laws B M S lists (blocks ring_by M S lists some accepted) t ch.numbers kept.legal
          (opens_words t is) ch.written ch.parts j within
          (subst (CanFollow B M t) is_j can)) (each_more GoesOn t.entries (entry.Land (j + 1)) ch.unstopped tt)
          (each_more (Touches S (length lists)) t.entries (entry.Land (j + 1)) ch.touched tt)
          (one_more t.entries (entry.Land (j + 1)) ch.written tt))

  pub cleans : Cleans ring_by (means_by m)
  cleans B M lists S t accepted is kept ch = ch.reports.clean

  pub goes : Goes ring_by (means_by m)
  goes B M lists S t accepted ch = ch.unstopped

  pub stays : Stays ring_by (means_by m)
  stays B M lists S t accepted ch = ch.touched

  pub all_laws : FitsHart ring_by → AllLaws ring_by (means_by m)
  all_laws short = (short, opens, keeps, cleans, goes, stays)
