-- What calls of a link do to what a tap keeps of it.
use Rattle.std.specs.Prelude.{option_to_list}
use Rattle.std.proofs.Common.{◌≡◌, ℕ, ◌+◌, List, [], ◌∷◌, ◌++◌, length, take, Option, Some, None, refl, sym, ap, ◌∙◌, subst, append-nil, arith}
use Rattle.ua_base.specs.declared.link.Sent.{Sent as SentEnd}
use Rattle.ua_base.specs.declared.link.Sent.TheVariants as sent
use Rattle.ua_base.specs.declared.link.Received.{Received}
use Rattle.ua_base.specs.declared.link.Received.TheVariants as received
use Rattle.ua_base.specs.declared.link.Opened.TheVariants as opened
use Rattle.ua_base.specs.Journal.{Entry, Sent, SendFailed, Got, Empty, Long, ReceiveFailed, LinkState, Tells, sent_list}
use Rattle.ua_base.specs.Net.{Opens, Sends, Receives}
use Rattle.ua_base.proofs.Parts.{sent_list-append}
use Rattle.ps_config.specs.declared.parts.Config.{Config}
use Rattle.ps_config.specs.Sound.{IsSound}
use Rattle.json_tap.specs.Transcoding.{Message, line, messages_of, transcoded}
use Rattle.json_tap.specs.Reading.{AreReadAs, IsReadAs, IsReadBack, LinkIsReadAs}
use Rattle.json_tap.specs.Keeping.{IsOf, IsOfLink, line_for, Keeps, KeepsIf, KeepsSent, Stays}
use Rattle.json_tap.proofs.Lines.{kept-more, lines-count, messages-more}

step : (config : Config) (told now : Option LinkState) (more lines after : List (List ℕ)) (skipped left : ℕ) → Tells told now (λ before state. sent_list state.journal ≡ sent_list before.journal ++ more) → ((datagrams : List (List ℕ)) → IsOf config datagrams lines skipped → IsOf config (datagrams ++ more) after left) → IsOfLink config told lines skipped → IsOfLink config now after left
step config told None more lines after skipped left tells keeps is = λ state e. absurd (let no : None ≡ Some state = e in cc)
step config told (Some end) more lines after skipped left tells keeps is = λ state e.
    let same : end ≡ state = let is_it : Some end ≡ Some state = e in cc in
    let was = keeps (sent_list tells.0.journal) (is tells.0 tells.1) in
    subst (λ (s : LinkState). IsOf config (sent_list s.journal) after left) same (subst (λ (l : List (List ℕ)). IsOf config l after left) (sym tells.2) was)

nothing-more : (config : Config) (datagrams lines : List (List ℕ)) (skipped : ℕ) → IsOf config datagrams lines skipped → IsOf config (datagrams ++ []) lines skipped
nothing-more config datagrams lines skipped is = subst (λ (l : List (List ℕ)). IsOf config l lines skipped) (sym (append-nil datagrams)) is

-- ---- a send

sends-done : (datagram : List ℕ) (told now : Option LinkState) → Tells told now (Sends datagram sent.Done) → Tells told now (λ before state. sent_list state.journal ≡ sent_list before.journal ++ datagram ∷ [])
sends-done datagram told None t = tt
sends-done datagram told (Some end) t = (t.0, t.1, ap sent_list t.2 ∙ sent_list-append t.0.journal (Sent datagram ∷ []))

sent-kept : (config : Config) (told now : Option LinkState) (datagram : List ℕ) (lines after : List (List ℕ)) (skipped left : ℕ) → Tells told now (Sends datagram sent.Done) → Keeps (line_for config (length lines) datagram) lines after skipped left → IsOfLink config told lines skipped → IsOfLink config now after left
sent-kept config told now datagram lines after skipped left tells keeps is =
    step config told now (datagram ∷ []) lines after skipped left (sends-done datagram told now tells) (λ datagrams was. kept-more config datagrams datagram lines after skipped left was keeps) is

sends-not : (datagram : List ℕ) (told now : Option LinkState) (end : SentEnd) → ((end ≡ sent.Done) → ⊥) → Tells told now (Sends datagram end) → Tells told now (λ before state. sent_list state.journal ≡ sent_list before.journal ++ [])
sends-not datagram told None end not t = tt
sends-not datagram told (Some state) sent.Done not t = absurd (not refl)
sends-not datagram told (Some state) sent.Failed not t = (t.0, t.1, ap sent_list t.2 ∙ sent_list-append t.0.journal (SendFailed ∷ []))
sends-not datagram told (Some state) sent.Memory not t = (t.0, t.1, ap sent_list t.2 ∙ sym (append-nil (sent_list t.0.journal)))

unsent-kept : (config : Config) (told now : Option LinkState) (datagram : List ℕ) (end : SentEnd) (lines : List (List ℕ)) (skipped : ℕ) → ((end ≡ sent.Done) → ⊥) → Tells told now (Sends datagram end) → IsOfLink config told lines skipped → IsOfLink config now lines skipped
unsent-kept config told now datagram end lines skipped not tells is =
    step config told now [] lines lines skipped skipped (sends-not datagram told now end not tells) (λ datagrams was. nothing-more config datagrams lines skipped was) is

staying : (config : Config) (told : Option LinkState) (lines after : List (List ℕ)) (skipped left : ℕ) → Stays lines after skipped left → IsOfLink config told lines skipped → IsOfLink config told after left
staying config told lines after skipped left stays is = λ state e.
    subst (λ (l : List (List ℕ)). IsOf config (sent_list state.journal) l left) (sym stays.lines_are)
    (subst (λ (n : ℕ). IsOf config (sent_list state.journal) lines n) (sym stays.others) (is state e))

pub send-kept : (config : Config) (told now : Option LinkState) (datagram : List ℕ) (end : SentEnd) (lines after : List (List ℕ)) (skipped left : ℕ) → Tells told now (Sends datagram end) → KeepsSent config datagram end lines after skipped left → IsOfLink config told lines skipped → IsOfLink config now after left
send-kept config told now datagram sent.Done lines after skipped left tells keeps is = sent-kept config told now datagram lines after skipped left tells keeps is
send-kept config told now datagram sent.Failed lines after skipped left tells keeps is =
    staying config now lines after skipped left keeps (unsent-kept config told now datagram sent.Failed lines skipped (λ no. absurd cc) tells is)
send-kept config told now datagram sent.Memory lines after skipped left tells keeps is =
    staying config now lines after skipped left keeps (unsent-kept config told now datagram sent.Memory lines skipped (λ no. absurd cc) tells is)

-- what was kept with the line that was made for the datagram
pub settled : (config of_tap : Config) (datagram : List ℕ) (end : SentEnd) (given : Option (List ℕ)) (lines mid after : List (List ℕ)) (skipped half left : ℕ) → config ≡ of_tap → given ≡ line_for config (length lines) datagram → mid ≡ lines → half ≡ skipped → KeepsIf end given mid after half left → KeepsSent of_tap datagram end lines after skipped left
settled config of_tap datagram end given lines mid after skipped half left same given_is mid_is half_is keeps =
    subst (λ (c : Config). KeepsIf end (line_for c (length lines) datagram) lines after skipped left) same
    (subst (λ (n : ℕ). KeepsIf end (line_for config (length lines) datagram) lines after n left) half_is
    (subst (λ (l : List (List ℕ)). KeepsIf end (line_for config (length lines) datagram) l after half left) mid_is
    (subst (λ (o : Option (List ℕ)). KeepsIf end o mid after half left) given_is keeps)))

pub left-alone : (config : Config) (told : Option LinkState) (lines after : List (List ℕ)) (skipped left : ℕ) → after ≡ lines → left ≡ skipped → IsOfLink config told lines skipped → IsOfLink config told after left
left-alone config told lines after skipped left same same_count is = staying config told lines after skipped left (record { lines_are = same; others = same_count }) is

-- ---- a receive

receives : (into : List ℕ) (told now : Option LinkState) (end : Received) → Tells told now (Receives end into) → Tells told now (λ before state. sent_list state.journal ≡ sent_list before.journal ++ [])
receives into told None end t = tt
receives into told (Some state) (received.Datagram n) t = (t.0, t.1, ap sent_list t.2.0 ∙ sent_list-append t.0.journal (Got (take n into) ∷ []))
receives into told (Some state) received.Nothing t = (t.0, t.1, ap sent_list t.2.0 ∙ sent_list-append t.0.journal (Empty ∷ []))
receives into told (Some state) (received.Long n) t = (t.0, t.1, ap sent_list t.2.0 ∙ sent_list-append t.0.journal (Long n ∷ []))
receives into told (Some state) received.Failed t = (t.0, t.1, ap sent_list t.2.0 ∙ sent_list-append t.0.journal (ReceiveFailed ∷ []))

pub received-kept : (config : Config) (told now : Option LinkState) (into : List ℕ) (end : Received) (lines : List (List ℕ)) (skipped : ℕ) → Tells told now (Receives end into) → IsOfLink config told lines skipped → IsOfLink config now lines skipped
received-kept config told now into end lines skipped tells is =
    step config told now [] lines lines skipped skipped (receives into told now end tells) (λ datagrams was. nothing-more config datagrams lines skipped was) is

-- ---- an opening

pub opened-kept : (config : Config) (told now : Option LinkState) → Tells told now (Opens opened.Done) → IsOfLink config now [] 0
opened-kept config told None t = λ state e. absurd (let no : None ≡ Some state = e in cc)
opened-kept config told (Some end) t = λ state e.
    let same : end ≡ state = let is_it : Some end ≡ Some state = e in cc in
    let empty : IsOf config [] [] 0 = record { lines_are = refl; others = refl } in
    subst (λ (s : LinkState). IsOf config (sent_list s.journal) [] 0) same (subst (λ (l : List Entry). IsOf config (sent_list l) [] 0) (sym t.2.0) empty)

-- ---- what is read of the lines

read-behind : (config : Config) (number : ℕ) (messages : List Message) (message : Message) → AreReadAs config number messages
    → IsReadAs config (line config (number + length messages) message) message → AreReadAs config number (messages ++ message ∷ [])
read-behind config number [] message read is =
    let same : number + 0 ≡ number = omega arith in
    (subst (λ (n : ℕ). IsReadAs config (line config n message) message) same is, tt)
read-behind config number (first ∷ messages) message read is =
    let same : number + length (first ∷ messages) ≡ number + 1 + length messages = omega arith in
    (read.0, read-behind config (number + 1) messages message read.1 (subst (λ (n : ℕ). IsReadAs config (line config n message) message) same is))

read-more : (config : Config) (messages : List Message) (m : Option Message) → AreReadAs config 0 messages
    → ((message : Message) → m ≡ Some message → IsReadAs config (line config (length messages) message) message) → AreReadAs config 0 (messages ++ option_to_list m)
read-more config messages None read new = subst (AreReadAs config 0) (sym (append-nil messages)) read
read-more config messages (Some message) read new =
    let from_zero : length messages ≡ 0 + length messages = omega arith in
    read-behind config 0 messages message read (subst (λ (n : ℕ). IsReadAs config (line config n message) message) from_zero (new message refl))

one-more : (config : Config) (sent lines : List (List ℕ)) (skipped : ℕ) (datagram : List ℕ) → IsOf config sent lines skipped → IsSound config → IsReadBack config (length lines) datagram
    → AreReadAs config 0 (messages_of config sent) → AreReadAs config 0 (messages_of config (sent ++ datagram ∷ []))
one-more config sent lines skipped datagram is sound back read =
    let messages = messages_of config sent in
    let count : length lines ≡ length messages = ap length is.lines_are ∙ lines-count config 0 messages in
    subst (AreReadAs config 0) (sym (messages-more config sent datagram (transcoded config datagram) refl))
    (read-more config messages (transcoded config datagram) read
    (λ message here. subst (λ (n : ℕ). IsReadAs config (line config n message) message) count (back message sound here)))

reads-on : (config : Config) (told now : Option LinkState) (more : List (List ℕ)) → Tells told now (λ before state. sent_list state.journal ≡ sent_list before.journal ++ more)
    → ((before : LinkState) → told ≡ Some before → IsSound config → AreReadAs config 0 (messages_of config (sent_list before.journal))
    → AreReadAs config 0 (messages_of config (sent_list before.journal ++ more))) → LinkIsReadAs config told → LinkIsReadAs config now
reads-on config told None more tells keeps read = λ state e. absurd (let no : None ≡ Some state = e in cc)
reads-on config told (Some end) more tells keeps read = λ state e sound.
    let same : end ≡ state = let is_it : Some end ≡ Some state = e in cc in
    let all = keeps tells.0 tells.1 sound (read tells.0 tells.1 sound) in
    subst (λ (s : LinkState). AreReadAs config 0 (messages_of config (sent_list s.journal))) same
    (subst (λ (l : List (List ℕ)). AreReadAs config 0 (messages_of config l)) (sym tells.2) all)

none-more : (config : Config) (told now : Option LinkState) → Tells told now (λ before state. sent_list state.journal ≡ sent_list before.journal ++ []) → LinkIsReadAs config told → LinkIsReadAs config now
none-more config told now tells read =
    reads-on config told now [] tells
    (λ before e sound all. subst (λ (l : List (List ℕ)). AreReadAs config 0 (messages_of config l)) (sym (append-nil (sent_list before.journal))) all) read

pub send-read : (config of_tap : Config) (told now : Option LinkState) (datagram : List ℕ) (end : SentEnd) (lines : List (List ℕ)) (skipped : ℕ) → config ≡ of_tap → Tells told now (Sends datagram end)
    → IsReadBack config (length lines) datagram → IsOfLink of_tap told lines skipped → LinkIsReadAs of_tap told → LinkIsReadAs of_tap now
send-read config of_tap told now datagram sent.Done lines skipped same tells back is read =
    let here = subst (λ (c : Config). IsReadBack c (length lines) datagram) same back in
    reads-on of_tap told now (datagram ∷ []) (sends-done datagram told now tells)
    (λ before e sound all. one-more of_tap (sent_list before.journal) lines skipped datagram (is before e) sound here all) read
send-read config of_tap told now datagram sent.Failed lines skipped same tells back is read =
    none-more of_tap told now (sends-not datagram told now sent.Failed (λ no. absurd cc) tells) read
send-read config of_tap told now datagram sent.Memory lines skipped same tells back is read =
    none-more of_tap told now (sends-not datagram told now sent.Memory (λ no. absurd cc) tells) read

pub receive-read : (config : Config) (told now : Option LinkState) (into : List ℕ) (end : Received) → Tells told now (Receives end into) → LinkIsReadAs config told → LinkIsReadAs config now
receive-read config told now into end tells read = none-more config told now (receives into told now end tells) read

pub open-read : (config : Config) (told now : Option LinkState) → Tells told now (Opens opened.Done) → LinkIsReadAs config now
open-read config told None t = λ state e. absurd (let no : None ≡ Some state = e in cc)
open-read config told (Some end) t = λ state e sound.
    let same : end ≡ state = let is_it : Some end ≡ Some state = e in cc in
    subst (λ (s : LinkState). AreReadAs config 0 (messages_of config (sent_list s.journal))) same
    (subst (λ (l : List Entry). AreReadAs config 0 (messages_of config (sent_list l))) (sym t.2.0) tt)
