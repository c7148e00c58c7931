-- What the first bytes of a token tell.
use Rattle.std.specs.Char.{is_ascii_digit}
use Rattle.std.specs.Str.{all_ascii_digits}
use Rattle.mir_base.specs.Names.{is_name_byte, is_letter}
use Rattle.mir_lex.specs.declared.words.Mark.{Mark}
use Rattle.mir_lex.specs.declared.words.Mark.TheVariants.{Colon, Comma, Semicolon, LeftParen, RightParen, Plus, Minus, Star, Slash, Equal, NotEqual, Less, LessEqual, Greater, GreaterEqual, Bang, Arrow}
use Rattle.mir_lex.specs.declared.scan.Previous.{Previous}
use Rattle.std.proofs.Common.{◌≡◌, ℕ, ◌==◌, Bool, true, false, ◌||◌, List, [], ◌∷◌, None, Some, refl, sym, ap, subst, inl, inr, ◌⊎◌, if◌then◌else◌, arith}
use Rattle.mir_lex.specs.Spelling.{mark_text, IsMark, IsNumeral, IsSpelled}
use Rattle.mir_lex.specs.Scanner.{single_mark}
use Rattle.std.proofs.lemmas.Bool.{and_parts}
use Rattle.mir_lex.proofs.Classes.{digit_no_letter}

-- ---- facts of all marks

-- a fact of a first byte and the bytes behind it, at the spelling of each mark
pub record AtMarks (P : ℕ → List ℕ → Type 0) : Type 0 where
  pub colon : P 58 []
  pub comma : P 44 []
  pub semicolon : P 59 []
  pub left : P 40 []
  pub right : P 41 []
  pub plus : P 43 []
  pub minus : P 45 []
  pub star : P 42 []
  pub slash : P 47 []
  pub equal : P 61 []
  pub bang : P 33 []
  pub not_equal : P 33 (61 ∷ [])
  pub less : P 60 []
  pub less_equal : P 60 (61 ∷ [])
  pub greater : P 62 []
  pub greater_equal : P 62 (61 ∷ [])
  pub arrow : P 60 (45 ∷ [])
  pub arrow_character : P 226 (134 ∷ 144 ∷ [])

-- from bytes to equal bytes
move : (P : ℕ → List ℕ → Type 0) (a b : ℕ) (xs ys : List ℕ) → a ∷ xs ≡ b ∷ ys → P b ys → P a xs
move P a b xs ys h at = let first : a ≡ b = cc in let rest : xs ≡ ys = cc in subst (λ c. P c xs) (sym first) (subst (P b) (sym rest) at)

-- what holds of each spelling holds of the bytes of each mark
pub at_mark : (P : ℕ → List ℕ → Type 0) → AtMarks P → (mark : Mark) (byte : ℕ) (bytes : List ℕ) → IsMark mark (byte ∷ bytes) → P byte bytes
at_mark P at Colon byte bytes h = move P byte 58 bytes [] h at.colon
at_mark P at Comma byte bytes h = move P byte 44 bytes [] h at.comma
at_mark P at Semicolon byte bytes h = move P byte 59 bytes [] h at.semicolon
at_mark P at LeftParen byte bytes h = move P byte 40 bytes [] h at.left
at_mark P at RightParen byte bytes h = move P byte 41 bytes [] h at.right
at_mark P at Plus byte bytes h = move P byte 43 bytes [] h at.plus
at_mark P at Minus byte bytes h = move P byte 45 bytes [] h at.minus
at_mark P at Star byte bytes h = move P byte 42 bytes [] h at.star
at_mark P at Slash byte bytes h = move P byte 47 bytes [] h at.slash
at_mark P at Equal byte bytes h = move P byte 61 bytes [] h at.equal
at_mark P at NotEqual byte bytes h = move P byte 33 bytes (61 ∷ []) h at.not_equal
at_mark P at Less byte bytes h = move P byte 60 bytes [] h at.less
at_mark P at LessEqual byte bytes h = move P byte 60 bytes (61 ∷ []) h at.less_equal
at_mark P at Greater byte bytes h = move P byte 62 bytes [] h at.greater
at_mark P at GreaterEqual byte bytes h = move P byte 62 bytes (61 ∷ []) h at.greater_equal
at_mark P at Bang byte bytes h = move P byte 33 bytes [] h at.bang
at_mark P at Arrow byte bytes (inl h) = move P byte 60 bytes (45 ∷ []) h at.arrow
at_mark P at Arrow byte bytes (inr h) = move P byte 226 bytes (134 ∷ 144 ∷ []) h at.arrow_character

-- a mark is spelled in one way, and the arrow also as a character
pub by_spelling : (P : Mark → List ℕ → Type 0) → ((mark : Mark) → P mark (mark_text mark)) → P Arrow (226 ∷ 134 ∷ 144 ∷ []) → (mark : Mark) (bytes : List ℕ) → IsMark mark bytes → P mark bytes
by_spelling P text character Colon bytes is = subst (P Colon) (sym is) (text Colon)
by_spelling P text character Comma bytes is = subst (P Comma) (sym is) (text Comma)
by_spelling P text character Semicolon bytes is = subst (P Semicolon) (sym is) (text Semicolon)
by_spelling P text character LeftParen bytes is = subst (P LeftParen) (sym is) (text LeftParen)
by_spelling P text character RightParen bytes is = subst (P RightParen) (sym is) (text RightParen)
by_spelling P text character Plus bytes is = subst (P Plus) (sym is) (text Plus)
by_spelling P text character Minus bytes is = subst (P Minus) (sym is) (text Minus)
by_spelling P text character Star bytes is = subst (P Star) (sym is) (text Star)
by_spelling P text character Slash bytes is = subst (P Slash) (sym is) (text Slash)
by_spelling P text character Equal bytes is = subst (P Equal) (sym is) (text Equal)
by_spelling P text character NotEqual bytes is = subst (P NotEqual) (sym is) (text NotEqual)
by_spelling P text character Less bytes is = subst (P Less) (sym is) (text Less)
by_spelling P text character LessEqual bytes is = subst (P LessEqual) (sym is) (text LessEqual)
by_spelling P text character Greater bytes is = subst (P Greater) (sym is) (text Greater)
by_spelling P text character GreaterEqual bytes is = subst (P GreaterEqual) (sym is) (text GreaterEqual)
by_spelling P text character Bang bytes is = subst (P Bang) (sym is) (text Bang)
by_spelling P text character Arrow bytes (inl is) = subst (P Arrow) (sym is) (text Arrow)
by_spelling P text character Arrow bytes (inr is) = subst (P Arrow) (sym is) character

-- no mark is empty
pub mark_some : (mark : Mark) → IsMark mark [] → ⊥
mark_some Colon h = absurd (cc)
mark_some Comma h = absurd (cc)
mark_some Semicolon h = absurd (cc)
mark_some LeftParen h = absurd (cc)
mark_some RightParen h = absurd (cc)
mark_some Plus h = absurd (cc)
mark_some Minus h = absurd (cc)
mark_some Star h = absurd (cc)
mark_some Slash h = absurd (cc)
mark_some Equal h = absurd (cc)
mark_some NotEqual h = absurd (cc)
mark_some Less h = absurd (cc)
mark_some LessEqual h = absurd (cc)
mark_some Greater h = absurd (cc)
mark_some GreaterEqual h = absurd (cc)
mark_some Bang h = absurd (cc)
mark_some Arrow (inl h) = absurd (cc)
mark_some Arrow (inr h) = absurd (cc)

-- a test that each first byte of a mark fails, or passes
pub first_byte : (test : ℕ → Bool) (value : Bool) → AtMarks (λ byte bytes. test byte ≡ value) → (mark : Mark) (byte : ℕ) (bytes : List ℕ) → IsMark mark (byte ∷ bytes) → test byte ≡ value
first_byte test value at mark byte bytes h = at_mark (λ byte bytes. test byte ≡ value) at mark byte bytes h

-- such a fact, from its cases in the order of the record
pub every : (P : ℕ → List ℕ → Type 0) → P 58 [] → P 44 [] → P 59 [] → P 40 [] → P 41 [] → P 43 [] → P 45 [] → P 42 [] → P 47 [] → P 61 [] → P 33 [] → P 33 (61 ∷ []) → P 60 [] → P 60 (61 ∷ []) → P 62 [] → P 62 (61 ∷ []) → P 60 (45 ∷ []) → P 226 (134 ∷ 144 ∷ []) → AtMarks P
every P a b c d e f g h i j k l m n o p q r = record {
  colon = a;
  comma = b;
  semicolon = c;
  left = d;
  right = e;
  plus = f;
  minus = g;
  star = h;
  slash = i;
  equal = j;
  bang = k;
  not_equal = l;
  less = m;
  less_equal = n;
  greater = o;
  greater_equal = p;
  arrow = q;
  arrow_character = r;
}

-- ---- first, second and third bytes

-- no byte of a name begins a mark
pub mark_no_name : (mark : Mark) (byte : ℕ) (bytes : List ℕ) → IsMark mark (byte ∷ bytes) → is_name_byte byte ≡ false
mark_no_name = first_byte is_name_byte false (every (λ byte bytes. is_name_byte byte ≡ false) refl refl refl refl refl refl refl refl refl refl refl refl refl refl refl refl refl refl)

-- which second bytes a first byte of a mark can have
abbrev pub opens : ℕ → ℕ → Bool
opens first second = if first == 60 then (second == 45 || second == 61) else if first == 62 then second == 61 else if first == 33 then second == 61 else if first == 226 then second == 134 else false

-- a second byte is one that the first can have
abbrev Second : ℕ → List ℕ → Type 0
Second first bytes = (second : ℕ) (rest : List ℕ) → bytes ≡ second ∷ rest → opens first second ≡ true

-- there is no second byte
lone : (first : ℕ) → Second first []
lone first second rest h = absurd (cc)

-- there is this second byte
paired : (first byte : ℕ) → opens first byte ≡ true → (more : List ℕ) → Second first (byte ∷ more)
paired first byte h more second rest is = let same : byte ≡ second = cc in subst (λ second. opens first second ≡ true) same h

-- by each mark
pub mark_second : (mark : Mark) (first second : ℕ) (rest : List ℕ) → IsMark mark (first ∷ second ∷ rest) → opens first second ≡ true
mark_second mark first second rest h =
    at_mark Second
    (every Second (lone 58) (lone 44) (lone 59) (lone 40) (lone 41) (lone 43) (lone 45) (lone 42) (lone 47) (lone 61) (lone 33) (paired 33 61 refl []) (lone 60) (paired 60 61 refl []) (lone 62)
    (paired 62 61 refl []) (paired 60 45 refl []) (paired 226 134 refl (144 ∷ [])))
    mark first (second ∷ rest) h second rest refl

-- only the arrow's character has three bytes, and no mark has more
abbrev Third : ℕ → List ℕ → Type 0
Third first bytes = (second third : ℕ) (rest : List ℕ) → bytes ≡ second ∷ third ∷ rest → ((first == 226) ≡ true) × (rest ≡ [])

-- there is no second byte
third_no : (first : ℕ) → Third first []
third_no first second third rest h = absurd (cc)

-- there is no third byte
third_none : (first byte : ℕ) → Third first (byte ∷ [])
third_none first byte second third rest h = absurd (cc)

-- the three bytes of the character
third_arrow : Third 226 (134 ∷ 144 ∷ [])
third_arrow second third rest h = (refl, cc)

-- by each mark
pub mark_third : (mark : Mark) (first second third : ℕ) (rest : List ℕ) → IsMark mark (first ∷ second ∷ third ∷ rest) → ((first == 226) ≡ true) × (rest ≡ [])
mark_third mark first second third rest h =
    at_mark Third
    (every Third (third_no 58) (third_no 44) (third_no 59) (third_no 40) (third_no 41) (third_no 43) (third_no 45) (third_no 42) (third_no 47) (third_no 61) (third_no 33) (third_none 33 61) (third_no 60)
    (third_none 60 61) (third_no 62) (third_none 62 61) (third_none 60 45) third_arrow)
    mark first (second ∷ third ∷ rest) h second third rest refl

-- what begins with the first byte of the arrow's character is that character
abbrev Arrows : ℕ → List ℕ → Type 0
Arrows first bytes = (first == 226) ≡ true → bytes ≡ 134 ∷ 144 ∷ []

-- by each mark
pub mark_arrow : (mark : Mark) (bytes : List ℕ) → IsMark mark (226 ∷ bytes) → bytes ≡ 134 ∷ 144 ∷ []
mark_arrow mark bytes h =
    at_mark Arrows (every Arrows no no no no no no no no no no no no no no no no no (λ _. refl)) mark 226 bytes h refl
  where
    no : {bytes : List ℕ} → false ≡ true → bytes ≡ 134 ∷ 144 ∷ []
    no h = absurd (cc)

-- a bar begins no mark
pub mark_no_bar : (mark : Mark) (byte : ℕ) (bytes : List ℕ) → IsMark mark (byte ∷ bytes) → (byte == 124) ≡ false
mark_no_bar = first_byte (λ byte. byte == 124) false (every (λ byte bytes. (byte == 124) ≡ false) refl refl refl refl refl refl refl refl refl refl refl refl refl refl refl refl refl refl)

-- a byte that no mark begins with
pub record NoMark (byte : ℕ) : Type 0 where
  pub no_minus : (byte == 45) ≡ false
  pub no_less : (byte == 60) ≡ false
  pub no_greater : (byte == 62) ≡ false
  pub no_bang : (byte == 33) ≡ false
  pub no_arrow : (byte == 226) ≡ false
  pub no_single : single_mark byte ≡ None

-- by each mark: its first byte is one of those
pub no_mark_here : (mark : Mark) (byte : ℕ) (bytes : List ℕ) → IsMark mark (byte ∷ bytes) → NoMark byte → ⊥
no_mark_here =
    at_mark (λ byte bytes. NoMark byte → ⊥) (every (λ byte bytes. NoMark byte → ⊥) (λ h. some Colon h.no_single) (λ h. some Comma h.no_single) (λ h. some Semicolon h.no_single) (λ h. some LeftParen h.no_single)
    (λ h. some RightParen h.no_single) (λ h. some Plus h.no_single) (λ h. clash h.no_minus) (λ h. some Star h.no_single) (λ h. some Slash h.no_single) (λ h. some Equal h.no_single) (λ h. clash h.no_bang)
    (λ h. clash h.no_bang) (λ h. clash h.no_less) (λ h. clash h.no_less) (λ h. clash h.no_greater) (λ h. clash h.no_greater) (λ h. clash h.no_less) (λ h. clash h.no_arrow))
  where
    some : (mark : Mark) → Some mark ≡ None → ⊥
    some mark h = absurd (cc)

    clash : true ≡ false → ⊥
    clash h = absurd (cc)

-- ---- words and numbers

-- the first byte of a number is a digit or a minus
pub numeral_first : (previous : Previous) (byte : ℕ) (bytes : List ℕ) → IsNumeral previous (byte ∷ bytes) → (is_ascii_digit byte ≡ true) ⊎ (byte ≡ 45)
numeral_first previous byte bytes (inl h) = inl (and_parts (is_ascii_digit byte) (all_ascii_digits bytes) h.1).0
numeral_first previous byte bytes (inr h) = inr (first h.0 h.1)
  where
    first : (digits : List ℕ) → byte ∷ bytes ≡ 45 ∷ digits → byte ≡ 45
    first digits is = cc

-- a number begins with no letter
pub numeral_no_letter : (previous : Previous) (byte : ℕ) (bytes : List ℕ) → IsNumeral previous (byte ∷ bytes) → is_letter byte ≡ false
numeral_no_letter previous byte bytes h = elim (numeral_first previous byte bytes h) [ inl digit ↦ digit_no_letter byte digit | inr minus ↦ ap is_letter minus ]

-- a byte that is neither a letter nor a digit nor a minus, and begins no mark, begins no token
pub spelled_first : (previous : Previous) (byte : ℕ) (bytes : List ℕ) → is_letter byte ≡ false → is_ascii_digit byte ≡ false → (byte == 45) ≡ false → ((mark : Mark) → IsMark mark (byte ∷ bytes) → ⊥) → IsSpelled previous (byte ∷ bytes) → ⊥
spelled_first previous byte bytes letter digit minus mark (inl word) = absurd (let is = word.0 in cc)
spelled_first previous byte bytes letter digit minus mark (inr (inl numeral)) = elim (numeral_first previous byte bytes numeral) [
  | inl is ↦ absurd (cc)
  | inr is ↦ absurd (let test : (byte == 45) ≡ true = ap (λ b. b == 45) is in cc)
]
spelled_first previous byte bytes letter digit minus mark (inr (inr is)) = mark is.0 is.1

-- no token is empty
pub spelled_some : (previous : Previous) → IsSpelled previous [] → ⊥
spelled_some previous (inl word) = let is = word.0 in absurd (cc)
spelled_some previous (inr (inl (inl digits))) = absurd (omega (arith, digits.0))
spelled_some previous (inr (inl (inr signed))) = let is = signed.1 in absurd (cc)
spelled_some previous (inr (inr mark)) = mark_some mark.0 mark.1
