pub mod AsBox
mod CodedRun
mod FormattingRun
mod OwnRun
mod PreconvRun
mod MdocRun
mod TblRun
mod Utf8Run
mod Handing
mod StagedRun
mod DocumentRun
