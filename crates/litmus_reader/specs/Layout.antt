-- How a text is put together: its first line, and the first line that begins so. The layout of a litmus text
-- without comments: a header line, lines that aren't read, the init part between braces, the table, and the
-- condition from its first line on.
use Rattle.std.specs.Prelude.{◌≡◌, ℕ, ◌⊎◌, List, [], ◌∷◌, ◌++◌, Option, Some, None, ◌==◌, false, codes}
use Rattle.texts.specs.Cutting.{is_byte, NonePass, AreBlanks, tokens}
use Rattle.texts.specs.Pieces.{is_blank}

-- no such byte stands in the text
abbrev pub HasNo : ℕ → List ℕ → Type 0
HasNo byte text = NonePass (is_byte byte) text

-- the first line of a text, and what follows it; an LF is 10
abbrev pub IsCut : (text line below : List ℕ) → Type 0
IsCut text line below = HasNo 10 line × ((text ≡ line ++ 10 ∷ below) ⊎ ((text ≡ line) × (below ≡ [])))

-- A text cut before its first line that begins so: the lines above, and the text from it on. Where no line begins so, all is
-- above and nothing follows.
pub data IsLineCut (Begins : List ℕ → Type 0) : (text above : List ℕ) → Option (List ℕ) → Type 0 where
  here : (text : List ℕ) → Begins text → IsLineCut Begins text [] (Some text)
  below : (line rest above : List ℕ) (from : Option (List ℕ)) → HasNo 10 line → (Begins (line ++ 10 ∷ rest) → ⊥)
      → IsLineCut Begins rest above from → IsLineCut Begins (line ++ 10 ∷ rest) (line ++ 10 ∷ above) from
  nowhere : (line : List ℕ) → HasNo 10 line → (Begins line → ⊥) → IsLineCut Begins line line None

abbrev pub IsFirst : (Begins : List ℕ → Type 0) → (text above from : List ℕ) → Type 0
IsFirst Begins text above from = IsLineCut Begins text above (Some from)

abbrev pub NoneBegins : (Begins : List ℕ → Type 0) → List ℕ → Type 0
NoneBegins Begins text = IsLineCut Begins text text None

-- ---- how a line begins, as a fact about the text from that line on

-- the line isn't blank
abbrev pub IsVisible : List ℕ → Type 0
IsVisible text = (blanks rest : List ℕ) × (c : ℕ) × AreBlanks blanks × (is_blank c ≡ false) × ((c == 10) ≡ false) × (text ≡ blanks ++ c ∷ rest)

-- it begins with these letters, whatever follows them
abbrev pub BeginsWith : (word text : List ℕ) → Type 0
BeginsWith word text = (blanks rest : List ℕ) × AreBlanks blanks × (text ≡ blanks ++ (word ++ rest))

-- parts of other litmus texts that this profile refuses
abbrev pub BeginsUnread : List ℕ → Type 0
BeginsUnread text = BeginsWith (codes "locations") text ⊎ BeginsWith (codes "filter") text

-- a quantifier
abbrev pub BeginsQuantified : List ℕ → Type 0
BeginsQuantified text = (BeginsWith (codes "exists") text ⊎ BeginsWith (codes "~exists") text) ⊎ BeginsWith (codes "forall") text

-- a condition, or one of those
abbrev pub BeginsCondition : List ℕ → Type 0
BeginsCondition text = BeginsQuantified text ⊎ BeginsUnread text

-- ---- the layout

-- its first tokens are `RISCV` and a name
abbrev pub IsHeader : List ℕ → Type 0
IsHeader line = (name : List ℕ) × (others : List (List ℕ)) × (tokens line ≡ codes "RISCV" ∷ name ∷ others)

-- `{` is 123 and `}` is 125; what stands after the `}` belongs to the table.
pub record IsLaidOut (text init table condition_text : List ℕ) : Type 0 where
  pub blank_lines : List ℕ
  pub headed : List ℕ
  pub header : List ℕ
  pub below : List ℕ
  pub unread_lines : List ℕ
  pub braced : List ℕ
  pub blanks : List ℕ
  pub following : List ℕ
  pub begins : IsFirst IsVisible text blank_lines headed
  pub first : IsCut headed header below
  pub named : IsHeader header
  pub opens : IsFirst (BeginsWith (codes "{")) below unread_lines braced
  pub indented : AreBlanks blanks
  pub closed : HasNo 125 init
  pub between : braced ≡ blanks ++ 123 ∷ (init ++ 125 ∷ following)
  pub asks : IsFirst BeginsCondition following table condition_text
