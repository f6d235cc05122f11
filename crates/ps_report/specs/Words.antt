-- The words of a report.
use Rattle.std.specs.Prelude.{ℕ, List, [], ◌∷◌, codes}

-- why a datagram is refused, in the order of a report: for its header, as another's, by the guard,
-- for its writers, its sizes and its parts
unfoldable pub cause_words : List (List ℕ)
cause_words =
    codes "Short" ∷ codes "Version" ∷ codes "DiscoveryOut" ∷ codes "BadPublisherType" ∷ codes "ReservedBits" ∷ codes "BadId"
    ∷ codes "NotOurs"
    ∷ codes "ModeDiffers" ∷ codes "FooterOut" ∷ codes "KeyResetOut" ∷ codes "BadNonceLength" ∷ codes "GuardShort"
    ∷ codes "UnknownToken" ∷ codes "OldToken" ∷ codes "BadSignature" ∷ codes "Repeated" ∷ codes "TooOld"
    ∷ codes "NoIds" ∷ codes "BadSizes" ∷ codes "BadFrame" ∷ []
