-- A text with a test has a listing, so that only memory can be missing for it.
use Rattle.std.proofs.Common.{◌≡◌, ℕ, ◌-◌, List, length, Result, Ok, Err, refl}
use Rattle.std.specs.Result.{IfErr}
use Rattle.texts.specs.Results.{GivesUpToMemory}
use Rattle.texts.specs.declared.errors.AtLine.{AtLine}
use Rattle.texts.specs.declared.errors.TextError.{TextError}
use Rattle.texts.specs.declared.errors.TextError.TheVariants.{NoMemory, Refused}
use Rattle.litmus.specs.LitmusTests.{LitmusTest}
use Rattle.litmus_tokens.specs.Cleaning.{cleaned_text}
use Rattle.litmus_tokens.proofs.CommentLaws.{only_cleaned}
use Rattle.litmus_reader.specs.{LitmusFault, fault_of, before_line, Content, content_of, IsContent, IsTestOf, ListedRowOf, table_rows, after_items, listing_in}
use Rattle.litmus_reader.specs.{listing_at}
use Rattle.litmus_reader.specs.declared.marks.Mark.TheVariants.{Condition}
use Rattle.litmus_reader.proofs.LayoutLaws.{layout_only}

pub test_listed : (text : List ℕ) (content : Content) → IsContent text content → (rows : List ListedRowOf) × (listing_at text ≡ Ok rows)
unfolding after_items listing_in listing_at
test_listed text content c =
    let clean : cleaned_text text ≡ c.clean = only_cleaned text c.clean c.cleaned in
    let laying = layout_only c.clean c.init c.table c.condition_text c.laid_out in
    (table_rows text (length c.clean - length laying.rest) (before_line Condition laying.rest), rw (clean, laying.headed, laying.braced, laying.closed) refl)

-- what a reader of listings answers where a test stands
pub only_memory : {X : Type 0} (view : X → List ListedRowOf) (text : List ℕ) (result : Result X (TextError (AtLine LitmusFault)))
    → GivesUpToMemory fault_of view result (listing_at text) → (test : LitmusTest) → IsTestOf text test → IfErr result (λ error. error ≡ NoMemory)
unfolding IsTestOf
only_memory view text (Ok x) gives test is = tt
only_memory view text (Err NoMemory) gives test is = refl
only_memory view text (Err (Refused refusal)) gives test is = absurd (let listed = test_listed text (content_of test) is.0 in cc)
