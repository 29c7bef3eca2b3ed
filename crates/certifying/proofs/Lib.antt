mod AnswerLaws
mod DrawnLaws
mod GoingLaws
mod HartLaws
mod LineLaws
mod Numbers
mod RecordLaws
