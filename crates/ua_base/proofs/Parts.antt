-- Parts of journals.
use Rattle.std.proofs.Common.{◌≡◌, List, ◌∷◌, ◌++◌, ap, ◌∙◌, append_assoc}
use Rattle.std.proofs.lemmas.List.Elements.{filter_map-append}
use Rattle.ua_base.specs.Journal.{Entry, Got, IsHonest, sent_datagram, sent_list}

-- the journal before a call is honest where the journal after it is
pub IsHonest-append : (xs ys : List Entry) → IsHonest (xs ++ ys) → IsHonest xs
IsHonest-append xs ys h = λ before after datagram is. h before (after ++ ys) datagram (ap (λ (l : List Entry). l ++ ys) is ∙ append_assoc before (Got datagram ∷ after) ys)

pub sent_list-append : (xs ys : List Entry) → sent_list (xs ++ ys) ≡ sent_list xs ++ sent_list ys
sent_list-append xs ys = filter_map-append sent_datagram xs ys
