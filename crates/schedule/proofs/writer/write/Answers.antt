use Rattle.std.proofs.Common.{ℕ, List, length, Ok, Err, Result, sym, ap, ◌∙◌, arith}
use Rattle.std.proofs.lemmas.Result.{err_from_is_err_and}
use Rattle.refusals.specs.declared.Refusal.{Refusal}
use Rattle.schedule.specs.declared.fault.WriteFault.{WriteFault}
use Rattle.schedule.specs.Faults.{told}
use Rattle.schedule.specs.Reading.{read_of}
use Rattle.schedule.specs.Writing.{how_long, buffer_after, told_write, wrote}
use Rattle.schedule.proofs.Checks.{write_refused, write_accepted, length_read, room_short, room_enough}
use Rattle.schedule.proofs.Remaining.{all_bytes}
use Rattle.schedule.proofs.RoundTrips.{written_is_read, read_is_written}
use Rattle.schedule.proofs.writer.write.Goals as goal

pub returns-in_err-len : goal.returns-in_err-len
returns-in_err-len c =
    let p = err_from_is_err_and c.from_residual.result c.from_residual.ensures.1 in
    let bs : List ℕ = all_bytes c.args.records.now in
    let w = write_refused (length c.args.buffer.now) (length bs) bs c.args.buffer.now (read_of bs) (told c.in_err-len.field-0.0) c.in_err-len.ensures in
    record {
      value = ap wrote p.1 ∙ ap (λ (f : WriteFault). Err (told_write f)) p.2 ∙ w.0;
      after = w.1;
      back = written_is_read;
      only = read_is_written;
    }

pub returns-then-buffer-lt-MOST_BYTES : goal.returns-then-buffer-lt-MOST_BYTES
returns-then-buffer-lt-MOST_BYTES c =
    let bs : List ℕ = all_bytes c.args.records.now in
    let buffer = c.args.buffer.now in
    let a = write_accepted (length buffer) (length bs) c.in_ok-len.len bs (read_of bs) c.in_ok-len.ensures in
    let t = a.0 ∙ room_short (length buffer) bs (omega arith) in
    record {
      value = ap (λ (f : WriteFault). Err (told_write f)) c.into.ensures ∙ sym (ap how_long t);
      after = sym (ap (λ (r : Result (List ℕ) Refusal). buffer_after r buffer) t);
      back = written_is_read;
      only = read_is_written;
    }

pub put_records-requires : goal.put_records-requires
put_records-requires c =
    let n = length_read (all_bytes c.args.records.now) _ c.in_ok-len.ensures in
    record { fits = omega arith; short = n }

pub returns : goal.returns
returns c =
    let bs : List ℕ = all_bytes c.args.records.now in
    let buffer = c.args.buffer.now in
    let a = write_accepted (length buffer) (length bs) c.in_ok-len.len bs (read_of bs) c.in_ok-len.ensures in
    let t = a.0 ∙ room_enough (length buffer) bs (omega arith) in
    record {
      value = ap (λ (n : ℕ). Ok n) a.1 ∙ sym (ap how_long t);
      after = c.put_records.ensures ∙ sym (ap (λ (r : Result (List ℕ) Refusal). buffer_after r buffer) t);
      back = written_is_read;
      only = read_is_written;
    }
