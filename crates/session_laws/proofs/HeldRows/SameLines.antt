-- What a closed session tells is the same, but for the counts of causes and of received datagrams.
use Rattle.std.proofs.Common.{◌≡◌, refl, sym, ap, ◌∙◌, subst, ℕ, ◌+◌, Bool, List, [], ◌∷◌, map, inl, inr}
use Rattle.std.specs.Prelude.{count_by, zip}
use Rattle.std.specs.List.{AllZip}
use Rattle.ua_base.specs.Journal.{Entry, Got}
use Rattle.ps_report.specs.declared.closed.Closed.{Closed}
use Rattle.ps_report.specs.declared.closed.LinkEnd.{LinkEnd}
use Rattle.ps_report.specs.declared.closed.ReadGroupEnd.{ReadGroupEnd}
use Rattle.ps_report.specs.declared.closed.ReaderEnd.{ReaderEnd}
use Rattle.ps_report.specs.declared.closed.WriterEnd.{WriterEnd}
use Rattle.pubsub_states.specs.declared.component.Component.TheVariants.{Group, Writer, ReadGroup, Reader}
use Rattle.pubsub_states.specs.declared.state.State.{State}
use Rattle.dataset_writer.specs.Turns.{model_settings}
use Rattle.pubsub_model.specs.Cadence.{log_of}
use Rattle.reader_group.specs.Members.{MemberValue, seat_at}
use Rattle.reader_group.specs.Settings.{setting_of}
use Rattle.writer_group.specs.Parts.{group_at}
use Rattle.writer_group.specs.Payloads.{writer_at}
use Rattle.writer_group.specs.Turns.{settings_of, writer_past}
use Rattle.session_model.specs.Answers.{counted, taken_by, causes_by, answers_at}
use Rattle.session_model.specs.Closing.{IsClosedAfter, IsReaderEnd, IsWriterEnd, MemberPlace, Shows, group_end, is_broken, is_got, is_long, is_send_failed, is_sent, limits, link_end, read_group_end}
use Rattle.session_model.specs.Deeds.{Deed, deeds, group_indexes, group_past}
use Rattle.session_model.specs.Sends.{is_done_by, journal, last_sends, send_entries, sent_by}
use Rattle.session_model.specs.States.{state_at}
use Rattle.session_model.specs.Steps.{Plan}
use Rattle.session_model.proofs.Sending.{count-append}
use Rattle.session_laws.specs.Twins.{TwinStep, Enable, Disable, Append, Tick, Pump, AreTwins, HasFurther, HaveFurther, firsts, seconds, with_counts_of}
use Rattle.session_laws.proofs.HeldRows.Refusing.{same-states, same-taken}
use Rattle.session_laws.proofs.HeldRows.Traces.{TraceLaw, same-deeds, same-reader}

-- ---- groups

pub same-sends : (p : Plan) (twins : List TwinStep) (g : ℕ) → sent_by p g (firsts twins) ≡ sent_by p g (seconds twins)
same-sends p [] g = refl
same-sends p (Enable id ∷ before) g = same-sends p before g
same-sends p (Disable id ∷ before) g = same-sends p before g
same-sends p (Append set field ∷ before) g = same-sends p before g
same-sends p (Tick ms closing samples done ∷ before) g =
    let now = Tick ms closing samples done ∷ before in
    ap (λ (n : ℕ). n + count_by (is_done_by g) (zip (last_sends (deeds p (firsts now))) done)) (same-sends p before g)
    ∙ ap (λ (d : List Deed). sent_by p g (seconds before) + count_by (is_done_by g) (zip (last_sends d) done)) (same-deeds p now)
same-sends p (Pump entries others ∷ before) g = same-sends p before g

same-group : TraceLaw → (p : Plan) (twins : List TwinStep) → AreTwins p twins → (g : ℕ) → group_end p (firsts twins) g ≡ group_end p (seconds twins) g
same-group law p twins are g =
    ap (λ (s : State). record { state = s; sent = counted (sent_by p g (firsts twins)) }) (same-states law p twins are (Group g))
    ∙ ap (λ (n : ℕ). record { state = state_at p (seconds twins) (Group g); sent = counted n }) (same-sends p twins g)

map-same : {X Y : Type 0} (f h : X → Y) → ((x : X) → f x ≡ h x) → (xs : List X) → map f xs ≡ map h xs
map-same f h same [] = refl
map-same {X} {Y} f h same (x ∷ xs) = ap (λ (y : Y). y ∷ map f xs) (same x) ∙ ap (λ (l : List Y). h x ∷ l) (map-same f h same xs)

-- ---- writers and readers

zip-weaker : {X Y : Type 0} (R S : X → Y → Type 0) → ((x : X) (y : Y) → R x y → S x y) → (xs : List X) (ys : List Y) → AllZip R xs ys → AllZip S xs ys
zip-weaker R S weaker [] [] all = all
zip-weaker R S weaker [] (y ∷ ys) all = absurd all
zip-weaker R S weaker (x ∷ xs) [] all = absurd all
zip-weaker R S weaker (x ∷ xs) (y ∷ ys) all = (weaker x y all.0, zip-weaker R S weaker xs ys all.1)

same-writer : TraceLaw → (p : Plan) (twins : List TwinStep) → AreTwins p twins → (place : MemberPlace) (end : WriterEnd) → IsWriterEnd p (firsts twins) place end → IsWriterEnd p (seconds twins) place end
same-writer law p twins are place end is = record {
  state = is.state ∙ same-states law p twins are (Writer place.0 place.1);
  log = is.log ∙ ap (λ (d : List Deed). log_of (model_settings (settings_of (writer_at (group_at p.config place.0) place.1))) (writer_past place.1 (group_past p.config place.0 d))) (same-deeds p twins);
}

same-reader-end : TraceLaw → (p : Plan) (twins : List TwinStep) → AreTwins p twins → (place : MemberPlace) (end : ReaderEnd) → IsReaderEnd p (firsts twins) place end → IsReaderEnd p (seconds twins) place end
same-reader-end law p twins are place end is = record {
  state = is.state ∙ same-states law p twins are (Reader place.0 place.1);
  shows = subst (λ (m : MemberValue). Shows (seat_at (setting_of p.config place.0).seats place.1).meta m end) (same-reader law p twins are place.0 place.1) is.shows;
}

pub same-lines : TraceLaw → (p : Plan) (twins : List TwinStep) (closed : Closed) → AreTwins p twins → IsClosedAfter p (firsts twins) closed → IsClosedAfter p (seconds twins) (with_counts_of p (seconds twins) closed)
same-lines law p twins closed are is = record {
  groups = is.groups ∙ map-same (group_end p (firsts twins)) (group_end p (seconds twins)) (same-group law p twins are) (group_indexes p.config);
  writers = zip-weaker (IsWriterEnd p (firsts twins)) (IsWriterEnd p (seconds twins)) (same-writer law p twins are) _ closed.writers is.writers;
  read_groups = refl;
  readers = zip-weaker (IsReaderEnd p (firsts twins)) (IsReaderEnd p (seconds twins)) (same-reader-end law p twins are) _ closed.readers is.readers;
  link = refl;
  told = record { readers = is.told.readers; watches = is.told.watches };
}

-- ---- read groups, and the link

pub other-causes : TraceLaw → (p : Plan) (twins : List TwinStep) (r : ℕ) → AreTwins p twins
    → let end = read_group_end p (seconds twins) r in end ≡ record (read_group_end p (firsts twins) r) { causes = end.causes }
other-causes law p twins r are =
    let causes = causes_by (answers_at p.config r (seconds twins)) in
    let end : State → ℕ → ReadGroupEnd = λ state taken. record { state = state; taken = taken; causes = causes } in
    ap (λ (s : State). end s (taken_by (answers_at p.config r (seconds twins)))) (sym (same-states law p twins are (ReadGroup r)))
    ∙ ap (end (state_at p (firsts twins) (ReadGroup r))) (sym (same-taken law p twins are r))

count-first : (test : Entry → Bool) (entry : Entry) (list : List Entry) → count_by test (entry ∷ list) ≡ count_by test (entry ∷ []) + count_by test list
count-first test entry list = count-append test (entry ∷ []) list

-- what isn't a datagram that came is counted as often
further-count : (test : Entry → Bool) → ((datagram : List ℕ) (list : List Entry) → count_by test (Got datagram ∷ list) ≡ count_by test list) → (others entries : List Entry) → HasFurther entries others
    → count_by test entries ≡ count_by test others
further-count test none [] entries same = ap (count_by test) same
further-count test none (x ∷ others) entries (inl (rest, same, more)) =
    ap (count_by test) same ∙ count-first test x rest ∙ ap (λ (n : ℕ). count_by test (x ∷ []) + n) (further-count test none others rest more) ∙ sym (count-first test x others)
further-count test none (x ∷ others) entries (inr (datagram, same, more)) =
    further-count test none others entries more ∙ sym (none datagram others) ∙ sym (ap (λ (y : Entry). count_by test (y ∷ others)) same)

journal-count : (p : Plan) (test : Entry → Bool) → ((datagram : List ℕ) (list : List Entry) → count_by test (Got datagram ∷ list) ≡ count_by test list) → (twins : List TwinStep) → HaveFurther twins
    → count_by test (journal p (firsts twins)) ≡ count_by test (journal p (seconds twins))
journal-count p test none [] have = refl
journal-count p test none (Enable id ∷ before) have = journal-count p test none before have
journal-count p test none (Disable id ∷ before) have = journal-count p test none before have
journal-count p test none (Append set field ∷ before) have = journal-count p test none before have
journal-count p test none (Tick ms closing samples done ∷ before) have =
    let now = Tick ms closing samples done ∷ before in
    let sent : List Deed → List Entry = λ d. send_entries (last_sends d) done in
    count-append test (journal p (firsts before)) (sent (deeds p (firsts now)))
    ∙ ap (λ (n : ℕ). n + count_by test (sent (deeds p (firsts now)))) (journal-count p test none before have)
    ∙ ap (λ (d : List Deed). count_by test (journal p (seconds before)) + count_by test (sent d)) (same-deeds p now)
    ∙ sym (count-append test (journal p (seconds before)) (sent (deeds p (seconds now))))
journal-count p test none (Pump entries others ∷ before) have =
    count-append test (journal p (firsts before)) entries
    ∙ ap (λ (n : ℕ). n + count_by test entries) (journal-count p test none before have.1)
    ∙ ap (λ (n : ℕ). count_by test (journal p (seconds before)) + n) (further-count test none others entries have.0)
    ∙ sym (count-append test (journal p (seconds before)) others)

pub other-received : (p : Plan) (twins : List TwinStep) → HaveFurther twins → limits (firsts twins) ≡ 0 → limits (seconds twins) ≡ 0
    → let end = link_end p (seconds twins) in end ≡ record (link_end p (firsts twins)) { received = end.received }
other-received p twins have first second =
    let received = counted (count_by is_got (journal p (seconds twins))) in
    let link : ℕ → ℕ → ℕ → ℕ → ℕ → LinkEnd = λ sent failed broken long limit.
    record { sent = counted sent; failed = counted failed; received = received; broken = counted broken; long = counted long; limit = counted limit } in
    let one = journal p (firsts twins) in
    let other = journal p (seconds twins) in
    ap (λ (n : ℕ). link n (count_by is_send_failed other) (count_by is_broken other) (count_by is_long other) (limits (seconds twins))) (sym (journal-count p is_sent (λ datagram list. refl) twins have))
    ∙ ap (λ (n : ℕ). link (count_by is_sent one) n (count_by is_broken other) (count_by is_long other) (limits (seconds twins))) (sym (journal-count p is_send_failed (λ datagram list. refl) twins have))
    ∙ ap (λ (n : ℕ). link (count_by is_sent one) (count_by is_send_failed one) n (count_by is_long other) (limits (seconds twins))) (sym (journal-count p is_broken (λ datagram list. refl) twins have))
    ∙ ap (λ (n : ℕ). link (count_by is_sent one) (count_by is_send_failed one) (count_by is_broken one) n (limits (seconds twins))) (sym (journal-count p is_long (λ datagram list. refl) twins have))
    ∙ ap (λ (n : ℕ). link (count_by is_sent one) (count_by is_send_failed one) (count_by is_broken one) (count_by is_long one) n) (second ∙ sym first)
