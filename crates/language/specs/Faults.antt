-- What the reason for a refusal says.
use Rattle.std.specs.Prelude.{◌≡◌, ℕ, ◌<◌, Bool, true, false, not, ◌&&◌, ◌||◌, List, [], ◌∷◌, length, ◌==◌, nat_le}
use Rattle.std.specs.List.{list_any, list_all}
use Rattle.std.proofs.Math.Option.{none}
use Rattle.meaning.specs.Base.{Bytes, among}
use Rattle.meaning.specs.Text.{is_word_byte, is_digit, head_byte, head_piece, starts_with_digit, reserved_words, as_number}
use Rattle.language_pieces.specs.Pieces.{cuts}
use Rattle.language.specs.declared.faults.Reason.{Reason}
use Rattle.language.specs.declared.faults.Reason.TheVariants.{OpenQuote, LongWord, LargeNumber, NotANumber, DigitFirst, Reserved, Stray, Expected, NoFrom}

-- is a byte a quote
abbrev pub is_quote : ℕ → Bool
is_quote byte = byte == 39

-- do bytes begin with a quote that is not closed
abbrev pub open_quote : List ℕ → Bool
open_quote [] = false
open_quote (byte ∷ bytes) = is_quote byte && not (list_any is_quote bytes)

-- has no piece that says something this byte outside quotes: it is no letter, digit, _ or quote, and none of ( ) * + , - / : < = %
abbrev pub is_unused : ℕ → Bool
is_unused byte =
    not (is_word_byte byte
    || ((nat_le 39 byte && nat_le byte 45) || (byte == 47 || (byte == 58 || (byte == 60 || (byte == 61 || byte == 37))))))

-- what a reason says of the piece at which a line goes wrong
abbrev pub TrueOfPiece : Reason → Bytes → Type 0
TrueOfPiece OpenQuote p = ⊥
TrueOfPiece LongWord p = (head_byte p ≡ 39) × (8 < length p)
TrueOfPiece LargeNumber p = (list_all is_digit p ≡ true) × (as_number p ≡ none)
TrueOfPiece NotANumber p = (starts_with_digit p ≡ true) × (list_all is_digit p ≡ false)
TrueOfPiece DigitFirst p = starts_with_digit p ≡ true
TrueOfPiece (Reserved e) p = among p reserved_words ≡ true
TrueOfPiece Stray p = is_unused (head_byte p) ≡ true
TrueOfPiece (Expected e) p = Unit {0}
TrueOfPiece NoFrom p = ⊥

-- what a reason says of the bytes from there on
abbrev pub TrueOf : Reason → List ℕ → Type 0
TrueOf OpenQuote s = open_quote s ≡ true
TrueOf LongWord s = TrueOfPiece LongWord (head_piece (cuts s))
TrueOf LargeNumber s = TrueOfPiece LargeNumber (head_piece (cuts s))
TrueOf NotANumber s = TrueOfPiece NotANumber (head_piece (cuts s))
TrueOf DigitFirst s = TrueOfPiece DigitFirst (head_piece (cuts s))
TrueOf (Reserved e) s = TrueOfPiece (Reserved e) (head_piece (cuts s))
TrueOf Stray s = TrueOfPiece Stray (head_piece (cuts s))
TrueOf (Expected e) s = Unit {0}
TrueOf NoFrom s = ⊥
