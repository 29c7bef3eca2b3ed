-- What a sender's act, and the landing of any store, make of all blocks.
use Rattle.std.proofs.Common.{ℕ, suc, ◌+◌, ◌%◌, ◌<◌, ◌≡◌, ◌≢◌, ◌==◌, ◌⊎◌, inl, inr, Bool, true, false, List, ◌∷◌, ◌++◌, length, None, if◌then◌else◌, refl, sym}
use Rattle.std.proofs.Common.{◌∙◌, ap, subst, arith}
use Rattle.std.specs.Prelude.{unwrap_or}
use Rattle.std.proofs.lemmas.Bool.{cases_eq}
use Rattle.std.proofs.lemmas.List.{map-append}
use Rattle.std.proofs.lemmas.Bool.Decides.{nat_tests}
use Rattle.hart.specs.{HartState, need_of, advanced}
use Rattle.hart.specs.declared.status.Status.TheVariants as status
use Rattle.hart.specs.declared.need.Need.{Need}
use Rattle.hart.specs.declared.need.Need.TheVariants as need
use Rattle.memory.specs.declared.writes.Write.{Write}
use Rattle.memory.specs.Writes.{newest_word}
use Rattle.step_machine.specs.declared.events.Entry.{Entry}
use Rattle.step_machine.specs.declared.events.Entry.TheVariants as entry
use Rattle.step_machine.specs.Names.{History, with_entry, hart_of, is_land, pending, read, access_of, WritesWord, AllWriteWords, OpensWithWords, word_in_memory}
use Rattle.step_machine.specs.Names.{number_read, state_of, Legal, CanFollow}
use Rattle.step_machine.proofs.WordReads.{read-word}
use Rattle.poll_close.specs.Layout.{Layout, Touches}
use Rattle.poll_close.specs.{GoesOn, BlockInvariant, Count, unsent_of, unread_of, BlockPart}
use Rattle.poll_close.specs.Invariant.Blocks.{SenderBlock, block_of, is_within, as_write, as_writes, to_block, window, AreNext}
use Rattle.poll_close.proofs.Acts.{Acted, Landed, acted, landed, Plain, going, stored_by}
use Rattle.poll_close.proofs.Windows.{window-made, window-head}
use Rattle.poll_close.proofs.Blocks.{IsWrite, IsBlock, Within, IsWordOf, word_end, IsStore-whole, apart, outside_differs, newest-as_writes, first-as_writes}
use Rattle.poll_close.proofs.Blocks.{choose}
use Rattle.poll_close.proofs.BlockLaws.{BlockLaws, found_in, Sends, Lands}

-- what a need would read where this is found
abbrev pub would_read : (ℕ → ℕ) → Need → ℕ
would_read seen need.Inner = 0
would_read seen (need.Load a width) = seen a
would_read seen (need.Store a width w) = 0
would_read seen (need.Amo a op rs2) = 0
would_read seen (need.Fence full) = 0
would_read seen (need.Next w) = 0
would_read seen (need.Report r) = 0
would_read seen need.Exit = 0
would_read seen (need.Stop why) = 0

-- a hart finds what its pending stores and memory hold, by words
pub read-is : (t : History) (h a : ℕ) → OpensWithWords t.opening → AllWriteWords t.entries → a % 4 ≡ 0
    → read t.opening t.entries h a 4
    ≡ unwrap_or (newest_word a None (pending h t.entries)) (word_in_memory t.opening t.entries a)
read-is t h a opens written aligned = read-word t.opening t.entries h a opens written aligned

-- all that a block's statement sees is as it was
pub record Untouched (M : ℕ) (k : SenderBlock) (i : ℕ) (t new : History) : Type 0 where
  pub state : state_of M new (i + 1) ≡ state_of M t (i + 1)
  pub buffer : pending (i + 1) new.entries ≡ pending (i + 1) t.entries
  pub theirs : to_block k (pending 0 new.entries) ≡ to_block k (pending 0 t.entries)
  pub memory : (a : ℕ) → Within k a → word_in_memory new.opening new.entries a ≡ word_in_memory t.opening t.entries a

-- a block's statement after an event that is not the receiver's act: the receiver's own numbers are as they were
abbrev pub Grown : (m : BlockInvariant) → ℕ → SenderBlock → ℕ → History → Count m → Type 0
Grown m M k i new n = (after : Count m) × BlockPart m k M i new after × (after.receiver ≡ n.receiver)

module _ (m : BlockInvariant) (laws : BlockLaws m) (M : ℕ) (k : SenderBlock) (i : ℕ) (t new : History) (n : Count m)
    (is : IsBlock k) (part : BlockPart m k M i t n) where
  pub untouched : Untouched M k i t new → BlockPart m k M i new n
  untouched u = record {
    order = part.order;
    sender = record { stands = part.sender.stands; state = u.state ∙ part.sender.state; holds = part.sender.holds; buffer = u.buffer ∙ part.sender.buffer };
    theirs = u.theirs ∙ part.theirs;
    words = laws.words_same k n.landed (word_in_memory t.opening t.entries) (word_in_memory new.opening new.entries) is u.memory part.words;
  }

  -- a store landed
  pub lands_part : (gone freed : ℕ) → Lands m k n (word_in_memory new.opening new.entries) gone freed
      → pending (i + 1) new.entries ≡ as_writes (window (m.sender_stores k) gone (m.sent n.sender))
      → to_block k (pending 0 new.entries) ≡ as_writes (window (m.receiver_stores k) freed (m.taken n.receiver))
      → state_of M new (i + 1) ≡ state_of M t (i + 1) → Grown m M k i new n
  lands_part gone freed l my their state = (
    record n { landed = l.after },
    record {
      order = l.order;
      sender = record { stands = part.sender.stands; state = state ∙ part.sender.state; holds = part.sender.holds; buffer = rw l.mine my };
      theirs = rw l.theirs their;
      words = l.words;
    },
    refl,
  )

  -- the sender needs no AMO and no stop, and stores whole words
  pub sender_plain : part.sender.stands.status ≡ status.Running → Plain (IsWordOf k) (need_of part.sender.stands)
  sender_plain runs =
      let seen : ℕ → ℕ = found_in (unsent_of m k n) (word_in_memory t.opening t.entries) in
      let sent : Sends m k n part.sender.stands (would_read seen (need_of part.sender.stands)) = laws.sends k n
      part.sender.stands (word_in_memory t.opening t.entries) (would_read seen (need_of part.sender.stands)) is
      part.order part.words part.sender.holds runs (λ a within needs. ap (would_read seen) needs) in
      record {
        no_amo = sent.plain;
        whole = λ x one. IsStore-whole k x
            (laws.sender_stores_are k is (m.sent n.sender) x
            (subst (AreNext (m.sender_stores k) (m.sent n.sender) (m.sent sent.after)) one sent.stores).1);
      }

  -- the sender acted
  pub acts_part : (v : ℕ) → OpensWithWords t.opening → AllWriteWords t.entries → Acted M t new (i + 1) part.sender.stands v → Grown m M k i new n
  acts_part v opens written a =
      let s : HartState = part.sender.stands in
      let sent : Sends m k n s v = laws.sends k n s (word_in_memory t.opening t.entries) v is part.order part.words
      part.sender.holds a.running (λ b word needs. a.loaded b needs ∙ found b word.aligned) in (
        record n { sender = sent.after },
        record {
          order = sent.order;
          sender = record {
            stands = advanced s v;
            state = a.state;
            holds = sent.stands;
            buffer = a.buffer ∙ ap (λ ws. ws ++ as_writes (stored_by (need_of s))) part.sender.buffer
                ∙ sym (map-append as_write (unsent_of m k n) (stored_by (need_of s)))
                ∙ ap as_writes (window-made (m.sender_stores k) (m.gone n.landed) (m.sent n.sender)
                (m.sent sent.after) (stored_by (need_of s)) (laws.gone_sent k n part.order) sent.stores);
          };
          theirs = ap (to_block k) (a.buffers 0 (omega arith)) ∙ part.theirs;
          words = laws.words_same k n.landed (word_in_memory t.opening t.entries)
              (word_in_memory new.opening new.entries) is (λ b within. a.memory b) part.words;
        },
        refl,
      )
    where
      found : (b : ℕ) → b % 4 ≡ 0 → read t.opening t.entries (i + 1) b 4 ≡ found_in (unsent_of m k n) (word_in_memory t.opening t.entries) b
      found b aligned =
          read-is t (i + 1) b opens written aligned
          ∙ ap (λ ws. unwrap_or (newest_word b None ws) (word_in_memory t.opening t.entries b)) part.sender.buffer
          ∙ ap (λ o. unwrap_or o (word_in_memory t.opening t.entries b)) (newest-as_writes b None (unsent_of m k n))

-- a landing writes the word that its store says
writes : (word new : ℕ → ℕ) (w : Write) (x : ℕ × ℕ) → w ≡ as_write x → ((a : ℕ) → new a ≡ (if w.addr == a then w.value else word a)) → IsWrite word new x
writes word new w x same write = subst (λ (u : Write). (a : ℕ) → new a ≡ (if u.addr == a then u.value else word a)) same write

-- and all blocks' statements after it
pub record BlocksAfter (m : BlockInvariant) (M : ℕ) (S : Layout) (lists : List (List ℕ)) (new : History) (f : ℕ → Count m) : Type 0 where
  pub numbers : ℕ → Count m
  pub parts : (i : ℕ) → i < length lists → BlockPart m (block_of M S lists i) M i new (numbers i)
  pub same : (i : ℕ) → i < length lists → (numbers i).receiver ≡ (f i).receiver

module _ (m : BlockInvariant) (laws : BlockLaws m) (B M : ℕ) (S : Layout) (lists : List (List ℕ))
    (are : (i : ℕ) → i < length lists → IsBlock (block_of M S lists i)) (t : History) (f : ℕ → Count m)
    (legal : Legal B t) (opens : OpensWithWords t.opening) (written : AllWriteWords t.entries)
    (parts : (i : ℕ) → i < length lists → BlockPart m (block_of M S lists i) M i t (f i)) where
  abbrev Now : History → ℕ → Type 0
  Now new i = Grown m M (block_of M S lists i) i new (f i)

  all_now : (new : History) → ((i : ℕ) → i < length lists → Now new i) → BlocksAfter m M S lists new f
  all_now new each =
      let g = choose (Count m) (λ i n. BlockPart m (block_of M S lists i) M i new n × (n.receiver ≡ (f i).receiver))
      (f 0) (length lists) (λ i less. (let one : Now new i = each i less in (one.0, (one.1, one.2)))) in
      record { numbers = g.0; parts = λ i less. (g.1 i less).0; same = λ i less. (g.1 i less).1 }

  -- one block has new numbers, and all others are untouched
  one_changed : (new : History) (j : ℕ) → Now new j
      → ((i : ℕ) → i < length lists → i ≢ j → Untouched M (block_of M S lists i) i t new)
      → BlocksAfter m M S lists new f
  one_changed new j mine others = all_now new (λ i less. at i less (cases_eq i j))
    where
      at : (i : ℕ) → i < length lists → (i ≡ j) ⊎ (i ≢ j) → Now new i
      at i less (inl same) = subst (Now new) (sym same) mine
      at i less (inr other) = (f i, untouched m laws M (block_of M S lists i) i t new (f i) (are i less) (parts i less) (others i less other), refl)

  -- a sender acts
  pub sender_goes_on : (j : ℕ) (within : j < length lists) (e : Entry) → CanFollow B M t e → hart_of e ≡ j + 1
      → is_land e ≡ false → GoesOn e × WritesWord (access_of e) × Touches S (length lists) e
  sender_goes_on j within e can mine alone =
      going _ S (length lists) B M t (j + 1) (parts j within).sender.stands e (parts j within).sender.state can mine alone
      (sender_plain m laws M (block_of M S lists j) j t t (f j) (are j within) (parts j within))
      (λ a word. record { block = j; known = within; own = inr refl; from = word.within.from; below = word_end (block_of M S lists j) (are j within) a word })

  pub sender_acts : (j : ℕ) (within : j < length lists) (e : Entry) → CanFollow B M t e → hart_of e ≡ j + 1
      → is_land e ≡ false → BlocksAfter m M S lists (with_entry t e) f
  sender_acts j within e can mine alone =
      let a : Acted M t (with_entry t e) (j + 1) (parts j within).sender.stands (number_read e) =
      acted _ B M t (j + 1) (parts j within).sender.stands e legal (parts j within).sender.state can mine alone
      (sender_plain m laws M (block_of M S lists j) j t t (f j) (are j within) (parts j within)) in
      one_changed (with_entry t e) j
      (acts_part m laws M (block_of M S lists j) j t (with_entry t e) (f j) (are j within) (parts j within)
      (number_read e) opens written a) (λ i less other. record {
        state = a.states (i + 1) (λ same. other (omega arith));
        buffer = a.buffers (i + 1) (λ same. other (omega arith));
        theirs = ap (to_block (block_of M S lists i)) (a.buffers 0 (omega arith));
        memory = λ b within. a.memory b;
      })

  -- one of a sender's stores lands
  pub sender_store_lands : (j : ℕ) (within : j < length lists) → CanFollow B M t (entry.Land (j + 1))
      → BlocksAfter m M S lists (with_entry t (entry.Land (j + 1))) f
  sender_store_lands j within can =
      let l = landed B M t (j + 1) legal can in
      at l.0 l.1 l.2 (first-as_writes (unsent_of m (block_of M S lists j) (f j)) l.0 l.1 (sym (parts j within).sender.buffer ∙ l.2.first))
    where
      missed : (x : ℕ × ℕ) (i a : ℕ) → i ≢ j → Within (block_of M S lists i) a → Within (block_of M S lists j) x.0 → (x.0 == a) ≡ false
      missed x i a other here inside =
          elim (cases_eq x.0 a) [
            | inl same ↦ absurd (apart M S lists i j a (are j within).room other here (subst (Within (block_of M S lists j)) same inside))
            | inr differ ↦ grind (arith, nat_tests)
          ]

      at : (w : Write) (rest : List Write) → Landed M t (with_entry t (entry.Land (j + 1))) (j + 1) w rest
          → (x : ℕ × ℕ) × (more : List (ℕ × ℕ)) × (unsent_of m (block_of M S lists j) (f j) ≡ x ∷ more)
          × (w ≡ as_write x) × (rest ≡ as_writes more) → BlocksAfter m M S lists (with_entry t (entry.Land (j + 1))) f
      at w rest l oldest =
          let x : ℕ × ℕ = oldest.0 in
          let head = window-head (m.sender_stores (block_of M S lists j)) (m.gone (f j).landed) (m.sent (f j).sender) x oldest.1 oldest.2 in
          let inside : Within (block_of M S lists j) x.0 =
          (laws.sender_stores_are (block_of M S lists j) (are j within) (m.gone (f j).landed) x head.1).place.within in
          one_changed (with_entry t (entry.Land (j + 1))) j
          (lands_part m laws M (block_of M S lists j) j t (with_entry t (entry.Land (j + 1))) (f j) (are j within)
          (parts j within) (suc (m.gone (f j).landed)) (m.freed (f j).landed)
          (laws.sender_lands (block_of M S lists j) (f j) (word_in_memory t.opening t.entries)
          (word_in_memory (with_entry t (entry.Land (j + 1))).opening (with_entry t (entry.Land (j + 1))).entries)
          x (are j within) (parts j within).order (parts j within).words head.0 head.1
          (writes (word_in_memory t.opening t.entries)
          (word_in_memory (with_entry t (entry.Land (j + 1))).opening (with_entry t (entry.Land (j + 1))).entries)
          w x oldest.3 l.memory))
          (l.buffer ∙ oldest.4 ∙ ap as_writes (sym head.2))
          (ap (to_block (block_of M S lists j)) (l.buffers 0 (omega arith)) ∙ (parts j within).theirs) (l.states (j + 1)))
          (λ i less other. record {
            state = l.states (i + 1);
            buffer = l.buffers (i + 1) (λ same. other (omega arith));
            theirs = ap (to_block (block_of M S lists i)) (l.buffers 0 (omega arith));
            memory = λ a here. writes (word_in_memory t.opening t.entries)
                (word_in_memory (with_entry t (entry.Land (j + 1))).opening (with_entry t (entry.Land (j + 1))).entries)
                w x oldest.3 l.memory a
                ∙ (let off : (x.0 == a) ≡ false = missed x i a other here inside in rw off refl);
          })

  -- one of the receiver's stores lands, in whichever block it is
  pub receiver_store_lands : CanFollow B M t (entry.Land 0) → BlocksAfter m M S lists (with_entry t (entry.Land 0)) f
  receiver_store_lands can =
      let l = landed B M t 0 legal can in
      all_now (with_entry t (entry.Land 0)) (λ i less. at i less l.0 l.1 l.2 (is_within (block_of M S lists i) l.0.addr) refl)
    where
      visited : (i : ℕ) (less : i < length lists) (w : Write) (rest : List Write)
          → Landed M t (with_entry t (entry.Land 0)) 0 w rest
          → (x : ℕ × ℕ) × (more : List (ℕ × ℕ)) × (unread_of m (block_of M S lists i) (f i) ≡ x ∷ more)
          × (w ≡ as_write x) × (to_block (block_of M S lists i) rest ≡ as_writes more)
          → Now (with_entry t (entry.Land 0)) i
      visited i less w rest l oldest =
          let head = window-head (m.receiver_stores (block_of M S lists i)) (m.freed (f i).landed) (m.taken (f i).receiver) oldest.0 oldest.1 oldest.2 in
          lands_part m laws M (block_of M S lists i) i t (with_entry t (entry.Land 0)) (f i) (are i less)
          (parts i less) (m.gone (f i).landed) (suc (m.freed (f i).landed))
          (laws.receiver_lands (block_of M S lists i) (f i) (word_in_memory t.opening t.entries)
          (word_in_memory (with_entry t (entry.Land 0)).opening (with_entry t (entry.Land 0)).entries) oldest.0
          (are i less) (parts i less).order (parts i less).words head.0 head.1
          (writes (word_in_memory t.opening t.entries)
          (word_in_memory (with_entry t (entry.Land 0)).opening (with_entry t (entry.Land 0)).entries) w oldest.0
          oldest.3 l.memory))
          (l.buffers (i + 1) (omega arith) ∙ (parts i less).sender.buffer)
          (ap (to_block (block_of M S lists i)) l.buffer ∙ oldest.4 ∙ ap as_writes (sym head.2)) (l.states (i + 1))

      at : (i : ℕ) → i < length lists → (w : Write) (rest : List Write)
          → Landed M t (with_entry t (entry.Land 0)) 0 w rest → (b : Bool) → is_within (block_of M S lists i) w.addr ≡ b
          → Now (with_entry t (entry.Land 0)) i
      at i less w rest l true on =
          let first : to_block (block_of M S lists i) (pending 0 t.entries) ≡ w
          ∷ to_block (block_of M S lists i) rest =
          ap (to_block (block_of M S lists i)) l.first ∙ rw on refl in
          visited i less w rest l
          (first-as_writes (unread_of m (block_of M S lists i) (f i)) w (to_block (block_of M S lists i) rest)
          (sym (parts i less).theirs ∙ first))
      at i less w rest l false off = (
        f i,
        untouched m laws M (block_of M S lists i) i t (with_entry t (entry.Land 0)) (f i) (are i less) (parts i less) (record {
          state = l.states (i + 1);
          buffer = l.buffers (i + 1) (omega arith);
          theirs = ap (to_block (block_of M S lists i)) l.buffer ∙ sym (ap (to_block (block_of M S lists i)) l.first ∙ rw off refl);
          memory = λ a here. l.memory a ∙ (let miss : (w.addr == a) ≡ false = outside_differs (block_of M S lists i) a w.addr here off in rw miss refl);
        }),
        refl,
      )
