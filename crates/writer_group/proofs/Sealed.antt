-- A datagram that was laid out with a front is protected where it stands.
use Rattle.std.proofs.Common.{◌≡◌, ℕ, ◌+◌, ◌-◌, ◌≤◌, List, ◌++◌, length, take, drop, refl, sym, ap, subst, ◌∙◌, append_assoc, arith, Some}
use Rattle.std.specs.Prelude.{slice_range}
use Rattle.std.proofs.lemmas.List.{drop-drop, drop_at, length-append, length-drop, length-take, length-take-le, take_at}
use Rattle.std.proofs.Math.Seq.{drop-append-add, take-append-add}
use Rattle.ua_binary.specs.Writing.{laid}
use Rattle.uadp_header.specs.Headers.{HeaderValue, SecurityValue}
use Rattle.uadp_header.specs.Reading.{IsSecured}
use Rattle.uadp_header.specs.Spelling.{IsWritten, header_bytes}
use Rattle.message_guard.specs.declared.mode.Mode.{Mode}
use Rattle.message_guard.specs.Protection.{payload_in as payload_of}
use Rattle.message_guard.specs.Senders.{MayProtect, SenderState, front_value, made_of as sealed_of, sent}
use Rattle.message_guard.proofs.Carrying.{written_carries}
use Rattle.ps_config.specs.Headers.{mode_of}
use Rattle.writer_group.specs.declared.load.Load.{Load}
use Rattle.writer_group.specs.Holding.{CargoValue, payload_in}
use Rattle.writer_group.specs.Posting.{laid_load, load_header, secured_load}
use Rattle.writer_group.specs.Sealing.{Envelope, secured_header}
use Rattle.writer_group.proofs.DatagramSizes.{length-sent}
use Rattle.message_guard.specs.Protection.{payload_in as payload_of}

abbrev pub fronted_header : Envelope → Mode → SenderState → ℕ → CargoValue → Load → HeaderValue
fronted_header e mode s index cargo load = load_header e index cargo load (Some (front_value mode s))

abbrev pub fronted_laid : Envelope → Mode → SenderState → ℕ → CargoValue → Load → List ℕ
fronted_laid e mode s index cargo load = laid_load e index cargo load (Some (front_value mode s))

pub secured-is : (e : Envelope) (mode : Mode) (s : SenderState) (index : ℕ) (cargo : CargoValue) (load : Load) → mode ≡ mode_of e.settings.security
    → secured_load e s index cargo load ≡ sent mode s (header_bytes (fronted_header e mode s index cargo load)) (payload_in cargo load).1
secured-is e mode s index cargo load same =
    ap (λ (m : Mode). sent m s (header_bytes (fronted_header e m s index cargo load)) (payload_in cargo load).1) (sym same)

pub length-secured : (e : Envelope) (mode : Mode) (s : SenderState) (index : ℕ) (cargo : CargoValue) (load : Load) → mode ≡ mode_of e.settings.security
    → length (secured_load e s index cargo load) ≡ length (fronted_laid e mode s index cargo load) + 32
length-secured e mode s index cargo load same =
    let header = header_bytes (fronted_header e mode s index cargo load) in
    let payload = (payload_in cargo load).1 in
    omega (arith, ap length (secured-is e mode s index cargo load same), length-sent mode s header payload, length-append header payload)

-- the datagram in front of its signature, and the 32 bytes behind it
pub unsigned : (free : List ℕ) (start : ℕ) (text : List ℕ) (end : ℕ) → start + length text + 32 ≤ length free → end ≡ start + length text + 32
    → slice_range (laid free start text) start end ≡ text ++ take 32 (drop (start + length text) free)
unsigned free start text end room ends =
    let front : length (take start free) ≡ start = length-take-le start free (omega arith) in
    let rest = drop (start + length text) free in
    let behind : drop start (laid free start text) ≡ text ++ rest =
    ap (drop start) (append_assoc (take start free) text rest) ∙ drop_at (take start free) (text ++ rest) start front in
    let size : end - start ≡ length text + 32 = omega arith in
    ap (take (end - start)) behind ∙ ap (λ (n : ℕ). take n (text ++ rest)) size ∙ take-append-add text rest 32

pub length-unsigned : (free : List ℕ) (at : ℕ) → at + 32 ≤ length free → length (take 32 (drop at free)) ≡ 32
length-unsigned free at room = omega (arith, length-take 32 (drop at free), length-drop at free)

pub may-protect : (mode : Mode) (s : SenderState) (h : HeaderValue) (payload rest bytes : List ℕ) (at : ℕ) → s.fronted ≡ Some mode → IsWritten h → h.security ≡ Some (front_value mode s)
    → length rest ≡ 32 → bytes ≡ (header_bytes h ++ payload) ++ rest → at ≡ length (header_bytes h) → MayProtect mode s bytes at
may-protect mode s h payload rest bytes at fronted written has long is place =
    let whole : bytes ≡ header_bytes h ++ (payload ++ rest) = is ∙ append_assoc (header_bytes h) payload rest in
    let carried : IsSecured (header_bytes h ++ (payload ++ rest)) (Some (front_value mode s)) (length (header_bytes h)) = written_carries h (Some (front_value mode s)) (payload ++ rest) written has in
    record {
      fronted = fronted;
      header = subst (λ (n : ℕ). IsSecured bytes (Some (front_value mode s)) n) (sym place)
          (subst (λ (l : List ℕ). IsSecured l (Some (front_value mode s)) (length (header_bytes h))) (sym whole) carried);
      room = omega (arith, place, long, ap length whole, length-append (header_bytes h) (payload ++ rest), length-append payload rest);
    }

pub sealed-is : (mode : Mode) (s : SenderState) (header payload rest bytes : List ℕ) (at : ℕ) → length rest ≡ 32 → bytes ≡ (header ++ payload) ++ rest → at ≡ length header
    → sealed_of mode s bytes at ≡ sent mode s header payload
sealed-is mode s header payload rest bytes at long is place =
    let whole : bytes ≡ header ++ (payload ++ rest) = is ∙ append_assoc header payload rest in
    let front : take at bytes ≡ header = ap (λ (l : List ℕ). take at l) whole ∙ take_at header (payload ++ rest) at (sym place) in
    let behind : drop at bytes ≡ payload ++ rest = ap (λ (l : List ℕ). drop at l) whole ∙ drop_at header (payload ++ rest) at (sym place) in
    let size : length bytes - 32 - at ≡ length payload = omega (arith, place, long, ap length whole, length-append header (payload ++ rest), length-append payload rest) in
    let inner : payload_of bytes at ≡ payload =
    ap (take (length bytes - 32 - at)) behind ∙ ap (λ (n : ℕ). take n (payload ++ rest)) size ∙ take_at payload rest (length payload) refl in
    ap (λ (l : List ℕ). sent mode s l (payload_of bytes at)) front ∙ ap (λ (l : List ℕ). sent mode s header l) inner

-- what was laid is laid over by as much and more
pub laid-over : (free : List ℕ) (start : ℕ) (text sealed : List ℕ) (end : ℕ) → start + length sealed ≤ length free → length text ≤ length sealed → end ≡ start + length sealed
    → take start (laid free start text) ++ (sealed ++ drop (end - start) (drop start (laid free start text))) ≡ laid free start sealed
laid-over free start text sealed end room shorter ends =
    let front : length (take start free) ≡ start = length-take-le start free (omega arith) in
    let rest = drop (start + length text) free in
    let whole : laid free start text ≡ take start free ++ (text ++ rest) = append_assoc (take start free) text rest in
    let before : take start (laid free start text) ≡ take start free = ap (take start) whole ∙ take_at (take start free) (text ++ rest) start front in
    let inner : drop start (laid free start text) ≡ text ++ rest = ap (drop start) whole ∙ drop_at (take start free) (text ++ rest) start front in
    let count : end - start ≡ length text + (length sealed - length text) = omega arith in
    let behind : drop (end - start) (text ++ rest) ≡ drop (start + length sealed) free =
    ap (λ (n : ℕ). drop n (text ++ rest)) count ∙ drop-append-add text rest (length sealed - length text)
    ∙ drop-drop (length sealed - length text) (start + length text) free
    ∙ ap (λ (n : ℕ). drop n free) (number (omega arith)) in
    ap (λ (l : List ℕ). l ++ (sealed ++ drop (end - start) (drop start (laid free start text)))) before
    ∙ ap (λ (l : List ℕ). take start free ++ (sealed ++ drop (end - start) l)) inner
    ∙ ap (λ (l : List ℕ). take start free ++ (sealed ++ l)) behind
    ∙ sym (append_assoc (take start free) sealed (drop (start + length sealed) free))
  where
    number : (start + length text + (length sealed - length text) ≡ start + length sealed) → start + length text + (length sealed - length text) ≡ start + length sealed
    number is = is

-- ---- where it stands

-- header and payload stand in the bytes, and carry the sender's front
pub record IsLaidOut (e : Envelope) (mode : Mode) (s : SenderState) (index : ℕ) (cargo : CargoValue) (load : Load) (free : List ℕ) (start : ℕ) (bytes : List ℕ) (payload_at end : ℕ) : Type 0 where
  pub mode_is : mode ≡ mode_of e.settings.security
  pub fronted : s.fronted ≡ Some mode
  pub laid_is : bytes ≡ laid free start (fronted_laid e mode s index cargo load)
  pub written : IsWritten (fronted_header e mode s index cargo load)
  pub payload_is : payload_at ≡ start + length (header_bytes (fronted_header e mode s index cargo load))
  pub end_is : end ≡ start + length (fronted_laid e mode s index cargo load)
  pub room : start + length (secured_load e s index cargo load) ≤ length free

-- what was laid out with a front that is the sender's
pub laid-out : (e : Envelope) (mode : Mode) (s : SenderState) (index : ℕ) (cargo : CargoValue) (load : Load) (free : List ℕ) (start : ℕ) (bytes : List ℕ) (payload_at end : ℕ) (front : SecurityValue) → front ≡ front_value mode s
    → mode ≡ mode_of e.settings.security → s.fronted ≡ Some mode → bytes ≡ laid free start (laid_load e index cargo load (Some front)) → IsWritten (load_header e index cargo load (Some front))
    → payload_at ≡ start + length (header_bytes (load_header e index cargo load (Some front))) → end ≡ start + length (laid_load e index cargo load (Some front))
    → start + length (secured_load e s index cargo load) ≤ length free → IsLaidOut e mode s index cargo load free start bytes payload_at end
laid-out e mode s index cargo load free start bytes payload_at end front is same fronted laid_on written payload_is end_is room =
    record {
      mode_is = same;
      fronted = fronted;
      laid_is = laid_on ∙ ap (λ (f : SecurityValue). laid free start (laid_load e index cargo load (Some f))) is;
      written = subst (λ (f : SecurityValue). IsWritten (load_header e index cargo load (Some f))) is written;
      payload_is = payload_is ∙ ap (λ (f : SecurityValue). start + length (header_bytes (load_header e index cargo load (Some f)))) is;
      end_is = end_is ∙ ap (λ (f : SecurityValue). start + length (laid_load e index cargo load (Some f))) is;
      room = room;
    }

pub sealed-header : (e : Envelope) (mode : Mode) (s : SenderState) (index : ℕ) (cargo : CargoValue) (load : Load) (free : List ℕ) (start : ℕ) (bytes : List ℕ) (payload_at end : ℕ) → IsLaidOut e mode s index cargo load free start bytes payload_at end
    → IsWritten (secured_header e s index (payload_in cargo load).0)
sealed-header e mode s index cargo load free start bytes payload_at end out =
    subst (λ (m : Mode). IsWritten (fronted_header e m s index cargo load)) out.mode_is out.written

pub signed-end : (e : Envelope) (mode : Mode) (s : SenderState) (index : ℕ) (cargo : CargoValue) (load : Load) (free : List ℕ) (start : ℕ) (bytes : List ℕ) (payload_at end : ℕ) → IsLaidOut e mode s index cargo load free start bytes payload_at end
    → end + 32 ≡ start + length (secured_load e s index cargo load)
signed-end e mode s index cargo load free start bytes payload_at end out =
    omega (arith, out.end_is, length-secured e mode s index cargo load out.mode_is)

datagram-is : (e : Envelope) (mode : Mode) (s : SenderState) (index : ℕ) (cargo : CargoValue) (load : Load) (free : List ℕ) (start : ℕ) (bytes : List ℕ) (payload_at end : ℕ) → IsLaidOut e mode s index cargo load free start bytes payload_at end
    → slice_range bytes start (end + 32) ≡ fronted_laid e mode s index cargo load ++ take 32 (drop (start + length (fronted_laid e mode s index cargo load)) free)
datagram-is e mode s index cargo load free start bytes payload_at end out =
    let text = fronted_laid e mode s index cargo load in
    let long = length-secured e mode s index cargo load out.mode_is in
    ap (λ (l : List ℕ). slice_range l start (end + 32)) out.laid_is
    ∙ unsigned free start text (end + 32) (omega (arith, long, out.room)) (omega (arith, out.end_is))

rest-long : (e : Envelope) (mode : Mode) (s : SenderState) (index : ℕ) (cargo : CargoValue) (load : Load) (free : List ℕ) (start : ℕ) (bytes : List ℕ) (payload_at end : ℕ) → IsLaidOut e mode s index cargo load free start bytes payload_at end
    → length (take 32 (drop (start + length (fronted_laid e mode s index cargo load)) free)) ≡ 32
rest-long e mode s index cargo load free start bytes payload_at end out =
    let long = length-secured e mode s index cargo load out.mode_is in
    length-unsigned free (start + length (fronted_laid e mode s index cargo load)) (omega (arith, long, out.room))

pub protect-may : (e : Envelope) (mode : Mode) (s : SenderState) (index : ℕ) (cargo : CargoValue) (load : Load) (free : List ℕ) (start : ℕ) (bytes : List ℕ) (payload_at end : ℕ) → IsLaidOut e mode s index cargo load free start bytes payload_at end
    → MayProtect mode s (slice_range bytes start (end + 32)) (payload_at - start)
protect-may e mode s index cargo load free start bytes payload_at end out =
    may-protect mode s (fronted_header e mode s index cargo load) (payload_in cargo load).1 (take 32 (drop (start + length (fronted_laid e mode s index cargo load)) free)) (slice_range bytes start (end + 32)) (payload_at - start)
    out.fronted out.written refl (rest-long e mode s index cargo load free start bytes payload_at end out) (datagram-is e mode s index cargo load free start bytes payload_at end out) (omega (arith, out.payload_is))

pub protected-laid : (e : Envelope) (mode : Mode) (s : SenderState) (index : ℕ) (cargo : CargoValue) (load : Load) (free : List ℕ) (start : ℕ) (bytes : List ℕ) (payload_at end : ℕ) (sealed : List ℕ) → IsLaidOut e mode s index cargo load free start bytes payload_at end
    → sealed ≡ sealed_of mode s (slice_range bytes start (end + 32)) (payload_at - start)
    → take start bytes ++ (sealed ++ drop (end + 32 - start) (drop start bytes)) ≡ laid free start (secured_load e s index cargo load)
protected-laid e mode s index cargo load free start bytes payload_at end sealed out is =
    let text = fronted_laid e mode s index cargo load in
    let header = header_bytes (fronted_header e mode s index cargo load) in
    let whole : sealed ≡ secured_load e s index cargo load =
    is ∙ sealed-is mode s header (payload_in cargo load).1 (take 32 (drop (start + length text) free)) (slice_range bytes start (end + 32)) (payload_at - start)
    (rest-long e mode s index cargo load free start bytes payload_at end out) (datagram-is e mode s index cargo load free start bytes payload_at end out) (omega (arith, out.payload_is))
    ∙ sym (secured-is e mode s index cargo load out.mode_is) in
    let long = length-secured e mode s index cargo load out.mode_is in
    let size = ap length whole in
    ap (λ (l : List ℕ). take start l ++ (sealed ++ drop (end + 32 - start) (drop start l))) out.laid_is
    ∙ laid-over free start text sealed (end + 32) (omega (arith, size, out.room)) (omega (arith, size, long)) (omega (arith, size, long, out.end_is))
    ∙ ap (laid free start) whole
