-- Turns of groups, and their senders.
use Rattle.std.proofs.Common.{◌≡◌, ℕ, ◌<◌, [], List, length, get_or, set, refl, sym, subst, ap, ◌∙◌}
use Rattle.std.specs.Prelude.{Bool, Option, Some, None, IfNone, IfSome, is_some, slice_get}
use Rattle.std.proofs.lemmas.Bool.{false≢true}
use Rattle.std.proofs.lemmas.List.{set-get_or}
use Rattle.std.proofs.lemmas.Option.{slice_get_read}
use Rattle.message_guard.specs.Senders.{SenderState}
use Rattle.reader_group.specs.Settings.{no_keys}
use Rattle.ps_config.specs.declared.parts.Config.{Config}
use Rattle.ps_config.specs.Sound.{IsSound}
use Rattle.writer_group.specs.Parts.{group_at, no_group}
use Rattle.writer_group.specs.Standing.{MayTick, MayTickAt, index_of}
use Rattle.writer_group.specs.declared.group.Group.{Group}
use Rattle.writer_group.specs.declared.sampled.Sampled.{Sampled}
use Rattle.device.specs.Sides.{HasNumbered, IsBecome, nth_sender, numbered, sender_for}
use Rattle.device.proofs.Places.{read-at}

-- what holds anyway holds of an option
pub none-always : {X : Type 0} (o : Option X) (P : Type 0) → P → IfNone o P
none-always None P p = p
none-always (Some x) P p = tt

pub some-always : {X : Type 0} (o : Option X) (P : X → Type 0) → ((x : X) → P x) → IfSome o P
some-always None P p = tt
some-always (Some x) P p = p x

pub none-then : {X : Type 0} (o : Option X) (P Q : Type 0) → (P → Q) → IfNone o P → IfNone o Q
none-then None P Q step p = step p
none-then (Some x) P Q step p = tt

pub some-then : {X : Type 0} (o : Option X) (P Q : X → Type 0) → ((x : X) → P x → Q x) → IfSome o P → IfSome o Q
some-then None P Q step p = tt
some-then (Some x) P Q step p = step x p

-- an element that stays leaves its list
pub same-set : {X : Type 0} (list : List X) (i : ℕ) (x y : X) → x ≡ get_or list i x → y ≡ x → set list i y ≡ list
same-set {X} list i x y is same = ap (λ (z : X). set list i z) (same ∙ is) ∙ set-get_or list i x

-- a secured group has no turn without a sender
pub not-without : (config : Config) (rows : List Sampled) (on : List Bool) (group : Group) (index keygroup : ℕ) → IsSound config → index_of group ≡ index → index < length config.group
    → (group_at config index).keygroup ≡ Some keygroup → ¬ MayTickAt config config.dataset rows on None group
not-without config rows on group index keygroup sound at low keyed may_at =
    let may : MayTick config config.dataset rows on None group (group_at config index) =
    subst (λ (i : ℕ). MayTick config config.dataset rows on None group (group_at config i)) at (may_at no_group) in
    false≢true (may.sender_is.there ∙ (sound.groups index no_group low).keys.keyed ∙ ap (λ (o : Option ℕ). is_some o) keyed)

-- ---- the senders of key groups

unfoldable pub no_sender : SenderState
no_sender = record { sets = []; keys = no_keys; random = []; first_block = 0; used = 0; fronted = None }

-- the sender of a group that is secured
pub sender-at : (config : Config) (senders : List SenderState) (index keygroup k : ℕ) (sender : SenderState) → (group_at config index).keygroup ≡ Some keygroup → k ≡ keygroup
    → k < length senders → sender ≡ get_or senders k sender → sender_for config senders index ≡ Some sender
sender-at config senders index keygroup k sender keyed at low is =
    ap (λ (o : Option ℕ). nth_sender senders o) keyed ∙ ap (λ (n : ℕ). slice_get senders n) (sym at) ∙ slice_get_read senders (length senders) k sender refl low is

-- one that is changed at its place
pub become-at : (change : SenderState → SenderState) (senders : List SenderState) (place k : ℕ) (was is : SenderState) → k ≡ place → k < length senders → was ≡ get_or senders k was
    → is ≡ change was → IsBecome (Some place) change senders (set senders k is)
become-at change senders place k was is at low read become = λ d.
    ap (λ (s : SenderState). set senders k s) (become ∙ ap change (read-at senders senders k place was refl at low read d))
    ∙ ap (λ (n : ℕ). set senders n (change (get_or senders place d))) at

-- without datagrams all stay
become-same : (keygroup : Option ℕ) (change : SenderState → SenderState) (old new : List SenderState) → ((sender : SenderState) → change sender ≡ sender)
    → IsBecome keygroup change old new → new ≡ old
become-same None change old new same is = is
become-same (Some k) change old new same is = is no_sender ∙ ap (λ (s : SenderState). set old k s) (same (get_or old k no_sender)) ∙ set-get_or old k no_sender

pub numbered-none : (config : Config) (index : ℕ) (old new : List SenderState) → HasNumbered config index 0 old new → new ≡ old
numbered-none config index old new has = become-same (group_at config index).keygroup (numbered config index 0) old new (λ sender. refl) has
