-- Texts and blobs of bytes.
use Rattle.std.proofs.Common.{◌≡◌, ℕ, ◌≤◌, List, length, Result, Ok, refl, sym, ap, ◌∙◌, arith, length-append}
use Rattle.std.proofs.Math.ListN.{length-replicate}
use Rattle.ua_values.specs.Blobs.{blob_of}
use Rattle.ua_values.specs.InPlace.{IsShort}
use Rattle.base64.specs.GeneralPurpose.{IsBytes, decode_of}
use Rattle.base64.specs.Engines.{standard}
use Rattle.base64.proofs.EngineFacts.{decode_of-encode_of, decode_of_strict}
use Rattle.base64.proofs.RoundTrip.{length-encode_symbols}
use Rattle.value_texts.proofs.TextLaws.{bytes_from_All}
use Rattle.value_texts.proofs.Candidates.{blob_short}
use Rattle.ua_values.specs.declared.blob.BlobTooLong.{BlobTooLong}
use Rattle.json_values.proofs.Results.{same_ok}
use Rattle.json_values.specs.Spelled.{base64_text}

-- what a blob is made of
pub blob_is : (bytes found : List ℕ) → blob_of bytes ≡ Ok found → found ≡ bytes
blob_is bytes found is = grind arith

pub base64_short : (bytes : List ℕ) → length bytes ≤ 256 → length (base64_text bytes) ≤ 344
base64_short bytes short =
    simp (length-append, length-encode_symbols, length-replicate) (omega arith)

pub base64_decodes : (bytes : List ℕ) → IsShort bytes → decode_of standard (base64_text bytes) ≡ Ok bytes
base64_decodes bytes short = decode_of-encode_of standard bytes refl (bytes_from_All bytes short.in_range)

pub base64_found : (word front slice found : List ℕ) (r : Result (List ℕ) BlobTooLong) → IsBytes word → decode_of standard word ≡ Ok front → r ≡ blob_of slice → r ≡ Ok found
    → slice ≡ front → word ≡ base64_text found
base64_found word front slice found r bytes decoded made is same =
    decode_of_strict standard word front (refl, refl) bytes decoded ∙ ap base64_text (sym same ∙ sym (blob_is slice found (sym made ∙ is)))

pub base64_every : (word front slice bytes : List ℕ) (r : Result (List ℕ) BlobTooLong) → IsShort bytes → decode_of standard word ≡ Ok front → word ≡ base64_text bytes → r ≡ blob_of slice
    → slice ≡ front → r ≡ Ok bytes
base64_every word front slice bytes r short decoded is made same =
    let e : front ≡ bytes = same_ok (decode_of standard word) front bytes decoded (ap (decode_of standard) is ∙ base64_decodes bytes short) in
    made ∙ ap blob_of (same ∙ e) ∙ blob_short bytes short
