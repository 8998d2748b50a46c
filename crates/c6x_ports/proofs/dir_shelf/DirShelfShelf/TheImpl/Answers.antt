use Rattle.std.proofs.Common.{refl}
use Rattle.c6x_ports.proofs.dir_shelf.DirShelfShelf.TheImpl.Goals as goal

-- No content is told, so what the trait says of contents holds of none.
pub fetch-tells : goal.fetch-tells
fetch-tells g c = record {
  found = λ told is. absurd (cc);
  short = c.ensures.short;
  lacked = λ told is. absurd (cc);
  missing = c.ensures.missing;
  failed = c.ensures.failed;
  distinct = λ told is. absurd (cc);
  keeps = record {
    files = refl;
    write_faults = c.ensures.write_faults_stay;
    read_faults = c.ensures.read_faults_kept;
    absences = c.ensures.absences_kept;
  };
}

pub store-tells : goal.store-tells
store-tells g c = record {
  done = λ told is. absurd (cc);
  others = λ told is. absurd (cc);
  unchanged = λ _. refl;
  failed = c.ensures.failed;
  never_missing = c.ensures.never_missing;
  distinct = λ told is. absurd (cc);
  keeps = record {
    read_faults = c.ensures.read_faults_stay;
    absences = c.ensures.absences_stay;
    write_faults = c.ensures.write_faults_kept;
  };
}
