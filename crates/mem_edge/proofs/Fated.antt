-- The journal of a link in memory is the one that its own calls give.
use Rattle.std.proofs.Common.{◌≡◌, ℕ, ◌+◌, ◌<◌, Bool, true, false, List, [], ◌∷◌, ◌++◌, length, map, take, cond, IsTrue, Option, Some, None, refl, sym, ap, ◌∙◌, subst, arith}
use Rattle.std.specs.Prelude.{nat_le, fold}
use Rattle.std.proofs.lemmas.Bool.Decides.{nat_tests}
use Rattle.std.proofs.lemmas.List.{append-nil, map-append}
use Rattle.std.proofs.lemmas.List.Sums.{fold-append}
use Rattle.ua_base.specs.declared.link.Fate.{Fate}
use Rattle.ua_base.specs.declared.link.Received.{Received}
use Rattle.ua_base.specs.declared.link.Received.TheVariants as received
use Rattle.ua_base.specs.Journal.{Entry, Sent, SendFailed, Got, Empty, Long, ReceiveFailed, LinkState, Tells, told_more}
use Rattle.ua_base.specs.Links.{Opening}
use Rattle.ua_base.specs.Net.{Receives, FitsBuffer}
use Rattle.ua_base.proofs.Told.{Tells-at}
use Rattle.mem_edge.specs.declared.memory_link.MemoryLink.{MemoryLink}
use Rattle.mem_edge.specs.Calls.{is_named, next_call}
use Rattle.mem_edge.specs.MemoryLinks.{told_by, opened_by, made_by}
use Rattle.mem_edge.specs.Queueing.{queued_by}
use Rattle.mem_edge.specs.Sends.{sends_in}
use Rattle.mem_edge.specs.Standings.{Settings, Call, Receive, Standing, IsFated, TellsFated, settings_with, after_call, at_opening, call_of, first_taken, standing_of, state_received}

-- one entry more
standing_more : (settings : Settings) (journal : List Entry) (entry : Entry) → standing_of settings (journal ++ entry ∷ []) ≡ after_call settings (standing_of settings journal) (call_of entry)
standing_more settings journal entry =
    ap (fold (after_call settings) at_opening) (map-append call_of journal (entry ∷ [])) ∙ fold-append (after_call settings) at_opening (map call_of journal) (call_of entry ∷ [])

abbrev standing_at : List Entry → List (List ℕ) → ℕ → Standing
standing_at journal waiting receives = record { state = record { journal = journal; waiting = waiting }; receives = receives }

-- a list of entries is that of its own calls, which leave these waiting datagrams and were so many receives
abbrev pub Follows : Settings → ℕ → List Entry → List (List ℕ) → Type 0
Follows settings receives journal waiting = standing_of settings journal ≡ standing_at journal waiting receives

pub follows-none : (settings : Settings) → Follows settings 0 [] []
follows-none settings = refl

-- a send
pub follows-sent : (settings : Settings) (receives : ℕ) (journal now : List Entry) (waiting left : List (List ℕ)) (datagram : List ℕ)
    → Follows settings receives journal waiting → is_named settings.making.send_fails (length (sends_in journal)) ≡ false → now ≡ journal ++ Sent datagram ∷ []
    → left ≡ waiting ++ queued_by settings.fates settings.making.injected (sends_in journal) datagram → Follows settings receives now left
follows-sent settings receives journal now waiting left datagram was not_named is queued =
    rw (is, queued) (standing_more settings journal (Sent datagram) ∙ ap (λ (s : Standing). after_call settings s (call_of (Sent datagram))) was ∙ rw not_named refl)

pub follows-send-failed : (settings : Settings) (receives : ℕ) (journal now : List Entry) (waiting left : List (List ℕ))
    → Follows settings receives journal waiting → is_named settings.making.send_fails (length (sends_in journal)) ≡ true → now ≡ journal ++ SendFailed ∷ []
    → left ≡ waiting → Follows settings receives now left
follows-send-failed settings receives journal now waiting left was named is same =
    rw (is, same) (standing_more settings journal SendFailed ∙ ap (λ (s : Standing). after_call settings s (call_of SendFailed)) was ∙ rw named refl)

-- a receive that fails
pub follows-receive-failed : (settings : Settings) (receives number : ℕ) (journal now : List Entry) (waiting left : List (List ℕ))
    → Follows settings receives journal waiting → is_named settings.making.receive_fails receives ≡ true → number ≡ next_call receives → now ≡ journal ++ ReceiveFailed ∷ []
    → left ≡ waiting → Follows settings number now left
follows-receive-failed settings receives number journal now waiting left was named next is same =
    rw (is, same, next) (standing_more settings journal ReceiveFailed ∙ ap (λ (s : Standing). after_call settings s (call_of ReceiveFailed)) was ∙ rw named refl)

-- another
another : (settings : Settings) (receives number : ℕ) (journal now : List Entry) (waiting left : List (List ℕ)) (entry : Entry) (room : ℕ)
    → Follows settings receives journal waiting → is_named settings.making.receive_fails receives ≡ false → number ≡ next_call receives → call_of entry ≡ Receive room → now ≡ journal ++ entry ∷ []
    → first_taken room journal waiting ≡ record { journal = journal ++ entry ∷ []; waiting = left } → Follows settings number now left
another settings receives number journal now waiting left entry room was not_named next call is took =
    rw (is, next) (standing_more settings journal entry ∙ ap (λ (s : Standing). after_call settings s (call_of entry)) was ∙ ap (λ (c : Call). after_call settings (standing_at journal waiting receives) c) call
    ∙ rw not_named (ap (λ (w : LinkState). record { state = w; receives = next_call receives }) took))

fits_itself : (datagram : List ℕ) → nat_le (length datagram) (length datagram) ≡ true
fits_itself datagram = grind (arith, nat_tests)

not_in_nothing : (n : ℕ) → 0 < n → nat_le n 0 ≡ false
not_in_nothing n some = grind (arith, nat_tests)

pub follows-got : (settings : Settings) (receives number : ℕ) (journal now : List Entry) (waiting left : List (List ℕ)) (datagram : List ℕ)
    → Follows settings receives journal waiting → is_named settings.making.receive_fails receives ≡ false → number ≡ next_call receives → now ≡ journal ++ Got datagram ∷ []
    → waiting ≡ datagram ∷ left → Follows settings number now left
follows-got settings receives number journal now waiting left datagram was not_named next is first =
    another settings receives number journal now waiting left (Got datagram) (length datagram) was not_named next refl is
    (ap (first_taken (length datagram) journal) first ∙ rw (fits_itself datagram) refl)

pub follows-long : (settings : Settings) (receives number : ℕ) (journal now : List Entry) (waiting left : List (List ℕ)) (datagram : List ℕ) (len : ℕ)
    → Follows settings receives journal waiting → is_named settings.making.receive_fails receives ≡ false → number ≡ next_call receives → now ≡ journal ++ Long len ∷ []
    → waiting ≡ datagram ∷ left → length datagram ≡ len → 0 < len → Follows settings number now left
follows-long settings receives number journal now waiting left datagram len was not_named next is first size some =
    another settings receives number journal now waiting left (Long len) 0 was not_named next refl is
    (ap (first_taken 0 journal) first ∙ rw size (rw (not_in_nothing len some) refl))

pub follows-empty : (settings : Settings) (receives number : ℕ) (journal now : List Entry) (waiting left : List (List ℕ))
    → Follows settings receives journal waiting → is_named settings.making.receive_fails receives ≡ false → number ≡ next_call receives → now ≡ journal ++ Empty ∷ []
    → waiting ≡ [] → left ≡ [] → Follows settings number now left
follows-empty settings receives number journal now waiting left was not_named next is none nothing =
    rw nothing (another settings receives number journal now waiting [] Empty 0 was not_named next refl is (ap (first_taken 0 journal) none))

-- ---- as a fact of what is told

-- what was told before, and its entry
from_more : (settings : Settings) (receives number : ℕ) (told : Option LinkState) (entries : List Entry) (more : List (List ℕ)) → TellsFated settings receives told
    → ((before : LinkState) → told ≡ Some before → Follows settings receives before.journal before.waiting → Follows settings number (before.journal ++ entries) (before.waiting ++ more))
    → TellsFated settings number (told_more told entries more)
from_more settings receives number None entries more was step = λ state is. cc
from_more settings receives number (Some before) entries more was step =
    λ state is.
    let same : record { journal = before.journal ++ entries; waiting = before.waiting ++ more } ≡ state = cc in
    subst (λ (w : LinkState). standing_of settings w.journal ≡ record { state = w; receives = number }) same (step before refl (was before refl))

pub fated-sent : (settings : Settings) (receives : ℕ) (told now : Option LinkState) (journal : List Entry) (datagram : List ℕ) (queued : List (List ℕ)) → TellsFated settings receives told
    → ((state : LinkState) → told ≡ Some state → journal ≡ state.journal) → is_named settings.making.send_fails (length (sends_in journal)) ≡ false
    → queued ≡ queued_by settings.fates settings.making.injected (sends_in journal) datagram → now ≡ told_more told (Sent datagram ∷ []) queued → TellsFated settings receives now
fated-sent settings receives told now journal datagram queued was keeps not_named comes is =
    subst (TellsFated settings receives) (sym is)
    (from_more settings receives receives told (Sent datagram ∷ []) queued was
    (λ before at follows.
    let same : journal ≡ before.journal = keeps before at in
    follows-sent settings receives before.journal (before.journal ++ Sent datagram ∷ []) before.waiting (before.waiting ++ queued) datagram follows
    (ap (λ (j : List Entry). is_named settings.making.send_fails (length (sends_in j))) (sym same) ∙ not_named) refl
    (ap (λ (l : List (List ℕ)). before.waiting ++ l) (comes ∙ ap (λ (j : List Entry). queued_by settings.fates settings.making.injected (sends_in j) datagram) same))))

pub fated-send-failed : (settings : Settings) (receives : ℕ) (told now : Option LinkState) (journal : List Entry) → TellsFated settings receives told
    → ((state : LinkState) → told ≡ Some state → journal ≡ state.journal) → is_named settings.making.send_fails (length (sends_in journal)) ≡ true
    → now ≡ told_more told (SendFailed ∷ []) [] → TellsFated settings receives now
fated-send-failed settings receives told now journal was keeps named is =
    subst (TellsFated settings receives) (sym is)
    (from_more settings receives receives told (SendFailed ∷ []) [] was
    (λ before at follows.
    follows-send-failed settings receives before.journal (before.journal ++ SendFailed ∷ []) before.waiting (before.waiting ++ []) follows
    (ap (λ (j : List Entry). is_named settings.making.send_fails (length (sends_in j))) (sym (keeps before at)) ∙ named) refl (append-nil before.waiting)))

pub fated-receive-failed : (settings : Settings) (receives number : ℕ) (told now : Option LinkState) → TellsFated settings receives told
    → is_named settings.making.receive_fails receives ≡ true → number ≡ next_call receives → now ≡ told_more told (ReceiveFailed ∷ []) [] → TellsFated settings number now
fated-receive-failed settings receives number told now was named next is =
    subst (TellsFated settings number) (sym is)
    (from_more settings receives number told (ReceiveFailed ∷ []) [] was
    (λ before at follows.
    follows-receive-failed settings receives number before.journal (before.journal ++ ReceiveFailed ∷ []) before.waiting (before.waiting ++ []) follows named next refl (append-nil before.waiting)))

-- a receive that didn't fail
took : (settings : Settings) (receives number : ℕ) (result : Received) (into : List ℕ) (before after : LinkState) → Receives result into before after → FitsBuffer result into → (result ≡ received.Failed → ⊥)
    → is_named settings.making.receive_fails receives ≡ false → number ≡ next_call receives → Follows settings receives before.journal before.waiting → Follows settings number after.journal after.waiting
took settings receives number (received.Datagram n) into before after did sizes works not_named next follows =
    follows-got settings receives number before.journal after.journal before.waiting after.waiting (take n into) follows not_named next did.0 did.1
took settings receives number received.Nothing into before after did sizes works not_named next follows =
    follows-empty settings receives number before.journal after.journal before.waiting after.waiting follows not_named next did.0 did.1 did.2
took settings receives number (received.Long n) into before after did sizes works not_named next follows =
    follows-long settings receives number before.journal after.journal before.waiting after.waiting did.1 n follows not_named next did.0 did.3 did.2 (omega (arith, sizes))
took settings receives number received.Failed into before after did sizes works not_named next follows = absurd (works refl)

pub fated-received : (settings : Settings) (receives number : ℕ) (told now : Option LinkState) (result : Received) (into : List ℕ) → TellsFated settings receives told
    → Tells told now (Receives result into) → FitsBuffer result into → (result ≡ received.Failed → ⊥) → is_named settings.making.receive_fails receives ≡ false → number ≡ next_call receives
    → TellsFated settings number now
fated-received settings receives number told now result into was entry sizes works not_named next =
    λ state is.
    let at = Tells-at told state (Receives result into) (subst (λ (o : Option LinkState). Tells told o (Receives result into)) is entry) in
    took settings receives number result into at.0 state at.2 sizes works not_named next (was at.0 at.1)

-- an opening
pub fated-opened : (settings : Settings) (told now : Option LinkState) → Tells told now (λ before after. after ≡ record { journal = []; waiting = [] }) → TellsFated settings 0 now
fated-opened settings told now entry =
    λ state is.
    let at = Tells-at told state (λ before after. after ≡ record { journal = []; waiting = [] }) (subst (λ (o : Option LinkState). Tells told o (λ before after. after ≡ record { journal = []; waiting = [] })) is entry) in
    subst (λ (w : LinkState). standing_of settings w.journal ≡ record { state = w; receives = 0 }) (sym at.2) refl

-- ---- the link

-- the settings of a link whose injected datagrams are the same
pub fated-injected : (injected other : List (ℕ × List ℕ)) (send_fails receive_fails : List ℕ) (open_fails : Bool) (fates : List (ℕ × Fate)) (receives : ℕ) (told : Option LinkState) → injected ≡ other
    → TellsFated (settings_with other send_fails receive_fails open_fails fates) receives told → TellsFated (settings_with injected send_fails receive_fails open_fails fates) receives told
fated-injected injected other send_fails receive_fails open_fails fates receives told same tells =
    subst (λ (i : List (ℕ × List ℕ)). TellsFated (settings_with i send_fails receive_fails open_fails fates) receives told) (sym same) tells

one_opening : (open_now : Bool) (x y : Opening) → cond open_now (Some x) None ≡ Some y → IsTrue open_now × (x ≡ y)
one_opening true x y is = (refl, cc)
one_opening false x y is = cc

pub told_fated : (link : MemoryLink) (state : LinkState) (opening : Opening) → told_by link ≡ Some state → opened_by link ≡ Some opening → IsFated (record { making = made_by link; fates = opening.fates }) state
told_fated link state opening told opened =
    let is = one_opening link.is_open (record { port = link.port; fates = link.fates.items }) opening opened in
    subst (λ (o : Opening). IsFated (record { making = made_by link; fates = o.fates }) state) is.1 (ap (λ (s : Standing). s.state) (link.fated is.0 state told))
