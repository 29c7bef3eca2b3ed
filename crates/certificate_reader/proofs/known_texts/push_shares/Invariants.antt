use Rattle.std.proofs.Common.{◌≡◌, ◌+◌, ◌≤◌, ◌++◌, length}
use Rattle.std.specs.String.{string_bytes}
use Rattle.certificate_reader.specs.Writing.{lines_text, share_lines}
use Rattle.certificate_reader.proofs.known_texts.push_shares.Given as goal

abbrev pub invariant-shares : goal.invariant-shares
invariant-shares l = record {
  so_far : string_bytes l.out ++ lines_text l.front (share_lines l.place l.rest) ≡ string_bytes l.fn.out ++ lines_text l.front (share_lines 0 l.shares);
  few : l.place + length l.rest ≤ length l.shares;
}

abbrev pub decreases-shares : goal.decreases-shares
decreases-shares l = length l.rest
