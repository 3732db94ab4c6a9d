-- How far reading a log has come, and what it means where it stops.
use Rattle.std.proofs.Common.{◌≡◌, ℕ, ◌<◌, Bool, true, List, [], ◌∷◌, ◌++◌, length, Result, Ok, Err, refl, sym, ap, subst, ◌∙◌, append_assoc, arith}
use Rattle.std.proofs.lemmas.List.{append-nil, length-append}
use Rattle.switch_packet.specs.declared.fault.PacketFault.TheVariants.{Short, BadByte}
use Rattle.switch_packet.specs.Packets.{PlainLog}
use Rattle.switch_packet.specs.Reading.{Cursor, start}
use Rattle.switch_packet.proofs.Codecs.{IsBytes, IsBytes-right, StopsAt, cursor}
use Rattle.intent_log.specs.Grammar.{Record, Intended, Answered, record_text, IsRecord, no_records, with_record, with_records, FitsBehind, FitInTurn, Ends, IsLog, IsDamagedAt}
use Rattle.switch_packet.specs.declared.record.LogView.{LogView}
use Rattle.intent_log.specs.declared.entry.EntryFault.{EntryFault}
use Rattle.intent_log.specs.declared.entry.EntryFault.TheVariants as entry
use Rattle.intent_log.specs.declared.fault.LogFault.{LogFault}
use Rattle.intent_log.specs.Reading.{record_at, plain_entry, ReadsEntry}
use Rattle.intent_log.specs.Told.{Says, StopsWith}
use Rattle.intent_log.proofs.RecordCodecs.{record_codec, text_some}
use Rattle.intent_log.proofs.GrammarLaws.{text_of, records_differ, not_front, fit_more, said_more, text_more}

torn_stays : (log : PlainLog) (rs : List Record) → (with_records log rs).torn ≡ log.torn
torn_stays log [] = refl
torn_stays log (Intended i ∷ rs) = torn_stays (with_record log (Intended i)) rs
torn_stays log (Answered o ∷ rs) = torn_stays (with_record log (Answered o)) rs

some_bytes : (left : List ℕ) → ¬ (left ≡ []) → 0 < length left
some_bytes [] some = absurd (some refl)
some_bytes (b ∷ left) some = omega arith

-- no record's text begins so that reading stops
stops_there : (c : Cursor) (place : ℕ) (s : StopsAt record_text IsRecord record_at c place) (r : Record) (other : List ℕ) → IsRecord r → record_text r ≡ s.before ++ s.byte ∷ other → ⊥
stops_there c place s r other v e =
    let goes = record_codec.again r 0 [] v in
    let stops = s.always 0 other in
    let same : record_text r ++ [] ≡ s.before ++ s.byte ∷ other = append-nil (record_text r) ∙ e in
    let clash = sym (ap (λ (b : List ℕ). record_at (cursor 0 b)) same) ∙ goes in
    cc (sym stops ∙ clash)

-- whole fitting records were read, and say this
pub record HasCome (client : ℕ) (bytes : List ℕ) (log : PlainLog) (c : Cursor) : Type 0 where
  pub records : List Record
  pub fit : FitInTurn client no_records records
  pub parts : bytes ≡ text_of records ++ c.left
  pub at : c.at ≡ length (text_of records)
  pub says : log ≡ with_records no_records records

pub at_start : (client : ℕ) (bytes : List ℕ) → HasCome client bytes no_records (start bytes)
at_start client bytes = record { records = []; fit = tt; parts = refl; at = refl; says = refl }

module _ (client : ℕ) (bytes : List ℕ) (log : PlainLog) (c : Cursor) (come : HasCome client bytes log c) where
  left_bytes : IsBytes bytes → IsBytes c.left
  left_bytes are = IsBytes-right (text_of come.records) c.left (subst IsBytes come.parts are)

  -- one record more was read, and fits
  pub come_on : (r : Record) (d : Cursor) → IsBytes bytes → record_at c ≡ Ok (r, d) → FitsBehind client log r → HasCome client bytes (with_record log r) d × (length d.left < length c.left)
  come_on r d are read fits =
      let t = record_codec.takes c d r (left_bytes are) read in (
        record {
          records = come.records ++ r ∷ [];
          fit = fit_more client no_records come.records r come.fit t.1 (subst (λ (l : PlainLog). FitsBehind client l r) come.says fits);
          parts = come.parts ∙ ap (λ (l : List ℕ). text_of come.records ++ l) t.0.parts ∙ sym (append_assoc (text_of come.records) (record_text r) d.left)
              ∙ ap (λ (l : List ℕ). l ++ d.left) (sym (text_more come.records r));
          at = omega (arith, t.0.at, come.at, ap length (text_more come.records r), length-append (text_of come.records) (record_text r));
          says = ap (λ (l : PlainLog). with_record l r) come.says ∙ sym (said_more no_records come.records r);
        },
        omega (arith, text_some r, ap length t.0.parts, length-append (record_text r) d.left),
      )

  -- nothing is left
  pub come_to_end : c.left ≡ [] → IsLog client bytes log
  come_to_end none = record {
    records = come.records;
    left = c.left;
    parts = come.parts;
    fit = come.fit;
    ends = subst (λ (b : Bool). Ends b c.left) (sym (ap (λ (l : PlainLog). l.torn) come.says ∙ torn_stays no_records come.records)) none;
    says = ap (λ (l : PlainLog). record l { torn = log.torn }) come.says;
  }

  -- the front of a record is left
  pub come_torn : IsBytes bytes → ¬ (c.left ≡ []) → record_at c ≡ Err Short → IsLog client bytes (record log { torn = true })
  come_torn are some read = record {
    records = come.records;
    left = c.left;
    parts = come.parts;
    fit = come.fit;
    ends = (some_bytes c.left some, record_codec.short c (left_bytes are) read);
    says = ap (λ (l : PlainLog). record l { torn = true }) come.says;
  }

  -- a byte that no record has there
  pub come_to_bad_byte : (place : ℕ) → IsBytes bytes → record_at c ≡ Err (BadByte place) → IsDamagedAt client bytes c.at
  come_to_bad_byte place are read =
      let s = record_codec.bad c place (left_bytes are) read in
      record {
        records = come.records;
        left = c.left;
        parts = come.parts;
        fit = come.fit;
        place = come.at;
        some = omega (arith, ap length s.parts, length-append s.before (s.byte ∷ s.after));
        no_front = λ f. stops_there c place s f.whole (s.after ++ f.more) f.valid (f.parts ∙ ap (λ (b : List ℕ). b ++ f.more) s.parts ∙ append_assoc s.before (s.byte ∷ s.after) f.more);
        no_record = λ r rest v fits e.
            let goes = record_codec.again r c.at rest v in
            cc (sym (ap (λ (b : List ℕ). record_at (cursor c.at b)) e ∙ goes) ∙ read);
      }

  -- a record that doesn't fit
  pub come_to_misfit : (r : Record) (d : Cursor) → IsBytes bytes → record_at c ≡ Ok (r, d) → ¬ FitsBehind client log r → IsDamagedAt client bytes c.at
  come_to_misfit r d are read misfit =
      let t = record_codec.takes c d r (left_bytes are) read in
      record {
        records = come.records;
        left = c.left;
        parts = come.parts;
        fit = come.fit;
        place = come.at;
        some = omega (arith, text_some r, ap length t.0.parts, length-append (record_text r) d.left);
        no_front = not_front r d.left c.left t.1 t.0.parts;
        no_record = λ q rest v fits e.
            let same = records_differ q r rest d.left v t.1 (sym e ∙ t.0.parts) in
            misfit (subst (λ (l : PlainLog). FitsBehind client l r) (sym come.says) (subst (λ (x : Record). FitsBehind client (with_records no_records come.records) x) same.0 fits));
      }

  -- nothing was read
  pub come_to_stop : (f : EntryFault) (place : ℕ) (d : Cursor) (result : Result LogView LogFault) → IsBytes bytes → ¬ (c.left ≡ []) → place ≡ c.at → ReadsEntry plain_entry d (Err f) (record_at c)
      → StopsWith f place log result → Says client bytes result
  come_to_stop (entry.Text Short) place d (Ok view) are some at read is = subst (IsLog client bytes) (sym is) (come_torn are some read)
  come_to_stop (entry.Text Short) place d (Err e) are some at read is = absurd is
  come_to_stop (entry.Text (BadByte bad)) place d result are some at read is =
      subst (Says client bytes) (sym is) (subst (IsDamagedAt client bytes) (sym at) (come_to_bad_byte bad are read))
  come_to_stop entry.NoMemory place d result are some at read is = subst (Says client bytes) (sym is) tt
