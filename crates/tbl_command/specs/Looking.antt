-- What tbl tells of the tables of a page that is looked at.
use Rattle.std.specs.Prelude.{◌≡◌, ℕ, List, length, take, nat_lt, Bool, None}
use Rattle.tbl_reader.specs.declared.complaint.Complaint.{Complaint}
use Rattle.tbl_reader.specs.Ending.{page_said}
use Rattle.tbl_setting.specs.Bounds.{Bounds, page_setting}
use Rattle.tbl_setting.specs.Drawing.{signs_of}
use Rattle.tbl_setting.specs.Setting.{set, wrongs}
use Rattle.tbl_command.specs.Complaints.{lines_of}
use Rattle.tbl_command.specs.Converting.{bounds_of}
use Rattle.tbl_command.specs.declared.arguments.Job.{Job}
use Rattle.tbl_command.specs.declared.looking.Tables.{Tables}

-- tables are looked at as they are set in ASCII
abbrev pub bounds_for : Job → Bounds
bounds_for job = bounds_of (signs_of None) job

-- all that is wrong with them, in their order, and whether one goes out in parts
abbrev pub all_wrong : Bounds → List ℕ → List Complaint
all_wrong b page = wrongs (page_said b.limits page) (page_setting b)

abbrev pub goes_in_parts : Bounds → List ℕ → Bool
goes_in_parts b page = (set (page_said b.limits page) (page_setting b)).layout.uneven

-- the first 64 complaints are kept, and it is known whether there are more, and whether a table goes out in
-- parts
pub record AreReportedOf (job : Job) (page : List ℕ) (tables : Tables) : Type 0 where
  pub first : tables.complaints.items ≡ take 64 (all_wrong (bounds_for job) page)
  pub more : tables.report.missed ≡ nat_lt 64 (length (all_wrong (bounds_for job) page))
  pub parts : tables.report.uneven ≡ goes_in_parts (bounds_for job) page

-- the lines of a program about tables that were looked at, on a page of this name
abbrev pub lines_of_tables : List ℕ → List ℕ → Tables → List ℕ
lines_of_tables program name tables = lines_of program name tables.complaints.items tables.report.missed tables.report.uneven

-- THE LINES of a program about the tables of a page
abbrev pub lines_of_page : List ℕ → List ℕ → Job → List ℕ → List ℕ
lines_of_page program name job page =
    lines_of program name (take 64 (all_wrong (bounds_for job) page))
    (nat_lt 64 (length (all_wrong (bounds_for job) page))) (goes_in_parts (bounds_for job) page)
