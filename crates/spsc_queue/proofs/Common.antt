-- Names that three or more files of these proofs cite: definitions, and lemmas of other crates. Declares nothing.
pub use Rattle.std.proofs.Common.{Bool, List, None, Option, Some, [], ap, append-nil, append_assoc, arith, drop, false, if◌then◌else◌, inl, inr, length}
pub use Rattle.std.proofs.Common.{length-append, pos, refl, subst, suc, sym, take, true, zero, ℕ, ◌%◌, ◌&&◌, ◌*◌, ◌++◌, ◌+◌, ◌-◌, ◌/◌, ◌<◌, ◌==◌, ◌^◌, ◌||◌}
pub use Rattle.std.proofs.Common.{◌∙◌, ◌∷◌, ◌≡◌, ◌≢◌, ◌≤◌, ◌⊎◌}
pub use Rattle.std.proofs.lemmas.Bool.{cases_eq, cases_lt, eq-eqb, eqb-true, ne_eqb}
pub use Rattle.std.proofs.lemmas.Bool.Decides.{nat_tests}
pub use Rattle.std.proofs.lemmas.List.Elements.{All-cons, All-head, All-nil, All-tail}
pub use Rattle.std.specs.List.{slice_get}
pub use Rattle.std.specs.Prelude.{All, map, slice_index, slice_set}
pub use Rattle.hart.proofs.Instructions.{IsAt}
pub use Rattle.hart.specs.Effects.{address, next_pc}
pub use Rattle.hart.specs.State.{HartState}
pub use Rattle.hart.specs.declared.need.Need.{Need}
pub use Rattle.memory.proofs.Bytes.{covers-from}
pub use Rattle.memory.specs.Writes.{write}
pub use Rattle.memory.specs.declared.writes.Write.{Write}
pub use Rattle.queue_parties.specs.Parties.{QueueCounts, count, other}
pub use Rattle.rv_decode.specs.Listings.{Listed, lines_of, words_of}
pub use Rattle.rv_decode.specs.Meaning.{reg_of}
pub use Rattle.rv_decode.specs.declared.instruction.Instr.{Instr}
pub use Rattle.rv_decode.specs.declared.instruction.Instr.TheVariants.{Immediate}
pub use Rattle.spsc_queue.specs.CallEffects.{IsPlainNeed, accesses, completed_word, longest, look_accesses, memory_access, receive_accesses, sees_full}
pub use Rattle.spsc_queue.specs.CallEffects.{send_accesses, take_accesses}
pub use Rattle.spsc_queue.specs.Calls.{Block, CallerObligation, HasArguments, HasFunction, IsBlock, MayPass, PartyObligation, SharesQueue, SpscQueue, StandsIn}
pub use Rattle.spsc_queue.specs.Calls.{UsesAsSpscQueue, buffer, completed_at, completed_by_entry, copy_in, enters, given_words, is_in_call, is_in_call_after}
pub use Rattle.spsc_queue.specs.Calls.{is_in_call_from, is_in_call_with, is_receiver_in_call, is_sender_in_call, listing_of, party_hart, party_line}
pub use Rattle.spsc_queue.specs.Calls.{received_words, ring_at}
pub use Rattle.spsc_queue.specs.Instances.{counts_at_start}
pub use Rattle.spsc_queue.specs.Laws.{FollowsSpscProtocol, available_count, available_of, known_by_state, ready_by_state}
pub use Rattle.spsc_queue.specs.Obligations.{obligations_kept}
pub use Rattle.spsc_queue.specs.Protocol.{IsCopyStore, IsReceiverStore, IsSendable, IsSenderStore, IsWordAt, KeepsProtocol, KeepsProtocolBy, ProtocolState}
pub use Rattle.spsc_queue.specs.Protocol.{ReceiverState, Role, SenderState, WritesNothingTo, asked, at_start, cleared, filled, holding, idle, looks_at}
pub use Rattle.spsc_queue.specs.Protocol.{looks_for_room, looks_past_copy, next_by, parties_after, placed, protocol_after, protocol_next, receive_load}
pub use Rattle.spsc_queue.specs.Protocol.{receive_look, receive_store, renewing, resting, role_of, room_at, roomy, says_empty, says_full, send_load, send_look}
pub use Rattle.spsc_queue.specs.Protocol.{send_store, waiting, watched_address}
pub use Rattle.spsc_queue.specs.RingBuffers.{IsQuiescent, IsRingBuffer, IsWordIn, Kind, RingBuffer, capacity, capacity_of, fastforward, lamport, next, overlaps}
pub use Rattle.spsc_queue.specs.RingBuffers.{publishes, releases, slot_address, slot_offset, unpublished, unreleased, writes_to}
pub use Rattle.step_machine.proofs.Appended.{LegalAfter-back, LegalAfter-front, stores-append}
pub use Rattle.step_machine.proofs.Landings.{balanced}
pub use Rattle.step_machine.proofs.Lines.{add_line, goes_to, leaves_in, load_line, other_jumps, same_goes_on, word-plus}
pub use Rattle.step_machine.specs.Access.{Access, access_of, exchange, land, load, nothing, store}
pub use Rattle.step_machine.specs.Entries.{hart_of, is_land, is_own, lands, memory_byte, memory_word, own, own_store, own_stores, pending, read, read_byte}
pub use Rattle.step_machine.specs.Entries.{stored_by, write_of}
pub use Rattle.step_machine.specs.History.{OpeningValue, history_of}
pub use Rattle.step_machine.specs.Legal.{Allowed, AllowedBy, Legal, LegalAfter, WellFormed}
pub use Rattle.step_machine.specs.Paths.{entry_of, number_read, state_of}
pub use Rattle.step_machine.specs.declared.events.Entry.{Entry}
pub use Rattle.store_buffers.specs.StoreBuffers.{IsOnlyWriter}
