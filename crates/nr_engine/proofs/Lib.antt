mod GoingOn
mod Starting
mod Travelling
