pub mod RecordFields
pub mod OwnedRuns
pub mod Delivered
pub mod ToldRuns
pub mod Arrived
pub mod Forms
pub mod Facts
pub mod States
pub mod Cases
pub mod Results
pub mod Steps
pub mod Fields
pub mod Tags
pub mod Effects
pub mod TagEffects
pub mod Filled
pub mod Certificates
pub use Rattle.queue_certificates.specs.RecordFields.{Field, MeetsField}
pub use Rattle.queue_certificates.specs.OwnedRuns.{ActsByCounts, AllCounts, IsCertifiedOfQueues, IsSameFor, LoadsAreOwned, LoadsByte, LoadsOwned, OwnsSlotsOf}
pub use Rattle.queue_certificates.specs.OwnedRuns.{ReadsFrom, ReadsOwned, SeesIndices, View, counts_then, kept_beside, limit, number_seen, owning, view_then}
pub use Rattle.queue_certificates.specs.Delivered.{IsDelivered}
pub use Rattle.queue_certificates.specs.ToldRuns.{IsOfTag, LoadsRestOwned, OwnsAllButTags, SeesTags, TellsEither, telling}
pub use Rattle.queue_certificates.specs.Arrived.{HasArrived}
pub use Rattle.queue_certificates.specs.Forms.{Bounds, Form, InRanges, IsAtMost, are_in, bounds_between, bounds_of, dot, fallings, first_variable, fits_in}
pub use Rattle.queue_certificates.specs.Forms.{form_value, is_same, lifted, minus, most, most_of_sum, number, plus, raised, remainder, remainder_word, risings}
pub use Rattle.queue_certificates.specs.Forms.{settled, substituted, times, vanishes}
pub use Rattle.queue_certificates.specs.Facts.{AllHold, Fact, Holds, differing, fact_by, high_facts, is_by, is_derived, is_shown, is_under, low_facts, weighed}
pub use Rattle.queue_certificates.specs.States.{EndAlike, Has, HasShare, KnownState, KnownValue, Means, MeansAt, Share, any, ends_as, has_bits, index_for}
pub use Rattle.queue_certificates.specs.States.{is_any, is_within, is_within_plain, linear, no_share, of_remainder, own_at, own_number, plain, scaled, share_by}
pub use Rattle.queue_certificates.specs.States.{signed_for, signed_word, state_by, value_by}
pub use Rattle.queue_certificates.specs.Cases.{Arrow, at_most, beyond, each_leaf, leaf, may_exceed, range_changed, with_high, with_low}
pub use Rattle.queue_certificates.specs.Results.{Bits, Rest, Result, any_up_to, as_number, bits_of, both, bounds, bounds_by, branch_part, counting, either_bits}
pub use Rattle.queue_certificates.specs.Results.{ending_by, ending_in, exactly, flag_of, if_unbounded, immediate_part, index_rest, is_below, is_below_signed}
pub use Rattle.queue_certificates.specs.Results.{is_branch_taken, is_count, is_equal, is_less, is_nothing, just, kept_bits, masked, masked_by, masked_row}
pub use Rattle.queue_certificates.specs.Results.{multiple_or, negated, negative, number_and, number_bits, of_bits, of_immediate, of_registers, of_rest}
pub use Rattle.queue_certificates.specs.Results.{of_shift, or_else, or_of, or_up_to, register_part, remaining, rest_counted, rest_of, rests_added, result_by}
pub use Rattle.queue_certificates.specs.Results.{set_less, shift_part, shifted_back, shifted_left, shifted_right, shifted_with_sign, sign_or, sum_of}
pub use Rattle.queue_certificates.specs.Results.{taken_known, turned, whole}
pub use Rattle.queue_certificates.specs.Results.{without, xor_of}
pub use Rattle.queue_certificates.specs.Steps.{address_value, addresses, after_exchange, after_load, after_store, all_below, anywhere, back_of, behind, called}
pub use Rattle.queue_certificates.specs.Steps.{exchange_by, exchanged, exchanging, extended_value, follow, goes_by, going_to, immediate_result, index_loaded}
pub use Rattle.queue_certificates.specs.Steps.{instruction_at, is_apart, is_copy, is_cut, is_index_below, is_just, is_look, is_off, is_one, is_own_index}
pub use Rattle.queue_certificates.specs.Steps.{is_own_word, is_owned, is_slot, is_whole, jumping, keeps_value, last_below, leaves_words, load_by, loaded}
pub use Rattle.queue_certificates.specs.Steps.{loading, loads_owned, looked_share, looked_word, low_bytes, low_form, may_fill, may_load, may_move, may_store}
pub use Rattle.queue_certificates.specs.Steps.{misses, most_loaded, moved_share, offset_at, operand, owned_then, position_at, reads_owned, register_at}
pub use Rattle.queue_certificates.specs.Steps.{share_at, shared, shares_moved, signed_value, storable, store_by, stored_value, storing, updated_value}
pub use Rattle.queue_certificates.specs.Steps.{value_loaded, when_passed, when_taken, with_equal, with_register, with_result, without_sign, word_loaded}
pub use Rattle.queue_certificates.specs.Steps.{word_then, words_then}
pub use Rattle.queue_certificates.specs.Fields.{after_field, field_below, field_in, field_number, field_or, field_there, is_field, keeps_numbers, last_number}
pub use Rattle.queue_certificates.specs.Fields.{next_received}
pub use Rattle.queue_certificates.specs.Tags.{AreTold, HasAtLeast, Told, after_tag, all_handed, are_above, are_apart_from_slots, are_slots, are_these, at_tag}
pub use Rattle.queue_certificates.specs.Tags.{back_to, bare, bits_above, bits_are, bits_for, covers_share, elements, handed, hands_over, has_these, in_round}
pub use Rattle.queue_certificates.specs.Tags.{is_beside_slots, is_codec, is_even_between, is_in_element, is_number, is_of_even_round, is_of_rest, is_of_tag}
pub use Rattle.queue_certificates.specs.Tags.{is_tagged, load_tells, loads_rest, looked_tag, makes, may_store_all, may_tell, moved_tag, next_told, nothing}
pub use Rattle.queue_certificates.specs.Tags.{number_of, other_value, party_in, reads_rest, something, store_tells, tag_at, tag_by, tag_position, tags_lead}
pub use Rattle.queue_certificates.specs.Tags.{are_bits_of, is_positive, told_by, told_value, tells_both, unknown, value_told, when_told, with_share}
unfoldable pub use Rattle.queue_certificates.specs.Tags.{told_by_store}
pub use Rattle.queue_certificates.specs.Effects.{WritesByte, effect_at, effect_of, filled_by, moves_head, published_by, value_stored}
pub use Rattle.queue_certificates.specs.TagEffects.{tag_effect_at, tag_effect_of}
pub use Rattle.queue_certificates.specs.Filled.{are_so, is_beside, is_filled, is_filled_after, is_number_of, is_right_after, lies_in, may_send, most_published}
pub use Rattle.queue_certificates.specs.Filled.{no_field}
pub use Rattle.queue_certificates.specs.Certificates.{AreFilled, Certifies, CertifiesLoads, HartPart, HasFields, IsAtState, IsInState, IsKeptByte, IsOwnByte}
pub use Rattle.queue_certificates.specs.Certificates.{ListedState, MeansAll, MeetsFields, OpenedQueue, Opens, OpensTagged, QueueCertificate, SharesTold}
pub use Rattle.queue_certificates.specs.Certificates.{accepts, accepts_hart, accepts_loads, accepts_rest, all_lead, all_within, are_apart, are_in_ranges}
pub use Rattle.queue_certificates.specs.Certificates.{arrow_leads, arrows_fill, each_leads, effect_sends, field_of, fields_at, is_closed, is_queue, is_share}
pub use Rattle.queue_certificates.specs.Certificates.{is_value, keeps_all_fields, keeps_fields, keeps_records, leads_to, leaves_slots, next_states, no_hart}
pub use Rattle.queue_certificates.specs.Certificates.{no_part, no_queue, nowhere, opens_all_told, opens_empty, opens_free, opens_in, opens_share, opens_told}
pub use Rattle.queue_certificates.specs.Certificates.{opens_unfilled, own_of, owns_loads, owns_rest, part_of, queue_at, start_at, state_at, tagged_at}
pub use Rattle.queue_certificates.specs.Certificates.{tagged_start, told_beside}
pub use Rattle.queue_certificates.specs.declared.effect.Effect.{Effect}
pub use Rattle.queue_certificates.specs.declared.effect.Effect.TheVariants.{Fills, Leaves, Publishes, PublishesSome}
pub use Rattle.queue_certificates.specs.declared.own.OwnWord.{OwnWord}
